-- A record after a change in place; what the tests of its bytes say.
pub mod Stored
pub mod Ways
pub mod Masks
