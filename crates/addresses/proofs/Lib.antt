-- Why no two meters have one address: Lines what a history carries along a line, Areas the line of an area's devices,
-- Taken what a frame and a local call do to one device, Addresses the theorem.
pub mod Lines
pub mod Areas
pub mod Taken
pub mod Addresses
pub mod Examples
