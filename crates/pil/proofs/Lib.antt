-- Told says that what C is told of an answer leaves one answer.
pub mod Told
