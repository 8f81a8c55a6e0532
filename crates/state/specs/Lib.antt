-- What a frame can alter of a device.
pub mod State
