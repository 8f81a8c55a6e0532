-- The clauses of soundness in groups, and the one on poll.
mod Groups
mod Polls
