-- The data bits that a kind leaves free.
pub mod Reading
