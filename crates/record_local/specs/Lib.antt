-- The local calls of a device, and such a call in its record.
pub mod Local
pub mod InPlace
