-- What the clauses come to by byte 3.
mod ByConfigured
