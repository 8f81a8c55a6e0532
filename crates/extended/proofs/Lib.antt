-- What bytes 20 and 21 written in a record leave there, an extended device's own frames, and where any other begins.
mod InPlace
mod Owned
pub mod Begun
