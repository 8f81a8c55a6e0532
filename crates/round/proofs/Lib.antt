-- Held says that the loop stays sound on the way round, Hopping what the hops have done and printed, Rest that no call
-- is refused.
pub mod Held
pub mod Hopping
pub mod Rest
