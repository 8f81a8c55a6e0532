-- The laws of the bus's bytes and the loop's commands, of rows of them, and what the loops of the code keep.
pub mod Codes
pub mod Rows
pub mod Calls
pub mod Loops
