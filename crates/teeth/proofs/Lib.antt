-- Both are computed, each on a loop of one or two devices.
pub mod Teeth
pub mod Example
