-- Ending says that the listing comes to its end.
pub mod Ending
