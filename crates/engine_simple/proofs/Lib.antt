-- The rule of a frame that was read.
pub mod Ruled
