-- The three demands, and what the requests ask to be proved: Demands is the page to read, and the others are what it
-- speaks of.
pub mod Calls
pub mod Conditions
pub mod Histories
pub mod Drains
pub mod Demands
