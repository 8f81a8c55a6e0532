-- A state written back.
pub mod Laws
