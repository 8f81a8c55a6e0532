-- The laws of a walk.
pub mod Laws
