-- The definitions of the codes: the message table, the classes, the one decoding, the answers, and the laws between
-- them; and the data bits by their places.
pub mod Messages
pub mod Classes
pub mod Decoding
pub mod Coding
pub mod Laws
pub mod Bits
