-- The laws of the calls. Outcomes says what a call does by the tests that the code makes, Kept that it keeps loops
-- sound, Lined that its hop is that of a line.
pub mod Outcomes
pub mod Kept
pub mod Lined
pub mod Owing
pub mod Turns
pub mod Powered
pub mod Laws
