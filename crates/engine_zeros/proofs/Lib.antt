-- A stretch tested byte by byte.
pub mod Stretch
