-- The rule of a frame at an extended device.
pub mod Own
