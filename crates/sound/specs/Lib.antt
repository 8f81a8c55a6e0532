-- The clauses of soundness in groups, as the code tests them.
pub mod Groups
