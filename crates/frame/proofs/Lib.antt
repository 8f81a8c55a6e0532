-- The laws of the codes, and what the proofs of the functions share.
pub mod Rows
pub mod Arms
pub mod Every
pub mod Laws
pub mod Table
pub mod Bits
