-- The clauses of soundness in the plain engine's groups.
pub mod Groups
