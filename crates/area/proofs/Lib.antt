-- The laws of areas and loops. Areas has both round trips; Held says what a part lent of an area is, and what giving
-- it back leaves.
pub mod Parts
pub mod Each
pub mod Chunks
pub mod Made
pub mod Links
pub mod Areas
pub mod Held
pub mod Blank
pub mod Laws
