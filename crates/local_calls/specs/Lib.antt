-- What a call in a record is of a device's local call.
pub mod InRecord
