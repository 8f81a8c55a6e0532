-- The decoder's and the encoder's answers.
pub mod Coding
