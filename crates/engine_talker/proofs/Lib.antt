-- What the clauses on a talker come to by what it sends.
mod ByState
