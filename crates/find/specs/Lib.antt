-- A device by its number.
pub mod Find
