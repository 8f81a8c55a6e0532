-- The limit on the devices of a loop.
pub mod Limits
