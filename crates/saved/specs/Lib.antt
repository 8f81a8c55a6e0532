-- Saved loops: the saved form of an area, the reading of a save, of an old one too, the two calls, and their laws.
pub mod Saved
pub mod Older
pub mod Calls
pub mod Inner
pub mod Laws
