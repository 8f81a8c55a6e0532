-- Records written in place, and what a call leaves of one.
pub mod InPlace
