-- The values of a record that are one byte each.
pub mod Single
