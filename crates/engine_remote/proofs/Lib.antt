-- The four states moved by their bits.
pub mod Moves
