-- The laws of the text: texts one behind the other, and digits.
pub mod Splices
pub mod Numbers
