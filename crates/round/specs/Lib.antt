-- A frame sent right round, and that it is refused nowhere.
pub mod Round
pub mod Laws
