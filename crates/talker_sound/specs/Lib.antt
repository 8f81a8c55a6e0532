-- The talker's clauses of soundness, as the code tests them.
pub mod Talker
