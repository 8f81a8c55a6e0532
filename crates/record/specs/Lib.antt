-- A device's record of 64 bytes, when it is sound, and the laws of reading and writing it.
pub mod Parts
pub mod Record
pub mod Written
pub mod Sound
pub mod Fits
pub mod Laws
