-- A line of devices, what is read off its histories, and the statements that their order does not matter, and of the
-- hops owed.
pub mod Flat
pub mod History
pub mod Line
pub mod Order
pub mod Owed
pub mod RightRound
pub mod Through
