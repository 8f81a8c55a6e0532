-- The lent area: its sizes, its links, the loop in its bytes, and the lookups and changes that the calls are made of.
pub mod Sizes
pub mod Parts
pub mod Link
pub mod Loop
pub mod Lookup
pub mod Laws
