-- A walk under way, and what it answers.
pub mod Strip
pub mod Walking
pub mod Refusals
