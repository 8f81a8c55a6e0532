-- Frames as a simple device in a record is given them.
pub mod Read
