-- The clauses of soundness in groups, each change that keeps them, poll, the replies, and all of it together in Keeps.
pub mod Groups
pub mod Zeros
pub mod Changes
pub mod Polls
pub mod Replies
pub mod Keeps
