-- The calls: what each does with a loop, and with an area; and the laws that they keep.
pub mod Outcome
pub mod Calls
pub mod Told
pub mod Drain
pub mod SetUp
pub mod Owed
pub mod Inner
pub mod Laws
