-- Clauses that the plain engine tests together.
pub mod Clauses
