-- The clauses on addresses, as the plain engine tests them.
pub mod Addresses
