-- The laws of a row's lines.
pub mod Written
pub mod Laws
