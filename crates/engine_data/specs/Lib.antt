-- What a device in a record sent.
pub mod Passed
