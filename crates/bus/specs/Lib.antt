-- The parallel bus's command bytes as the loop's commands, and back (02, m).
pub mod Codes
pub mod Rows
pub mod Calls
pub mod Laws
