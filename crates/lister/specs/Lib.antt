-- The lister: what it prints for an input of any bytes, and what each of its calls writes of it.
pub mod Lines
pub mod Listing
pub mod Chunks
pub mod Inner
pub mod Laws
