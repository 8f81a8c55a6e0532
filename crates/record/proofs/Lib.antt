-- The laws of records, and what they rest on: tests joined, parts put into bytes, lists of bytes, bytes that are
-- zero, and the clause on a device's variant.
pub mod Both
pub mod Variants
pub mod Parts
pub mod Places
pub mod Bytes
pub mod Laws
pub mod Whole
