-- The clauses in groups, and records tested one by one.
mod Grouped
mod Each
