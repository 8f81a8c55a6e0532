-- Remote and local by bits.
pub mod Bits
