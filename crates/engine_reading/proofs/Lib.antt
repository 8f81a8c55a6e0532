-- Kinds by parts of a frame, and why the free bits of a frame are its decoding.
pub mod Codes
pub mod Bits
