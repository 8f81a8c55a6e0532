-- A row of command bytes as lines of a script.
pub mod Listing
pub mod Laws
