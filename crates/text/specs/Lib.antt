-- The lister's text (01, the lister): its words and digits, and the lines that are printed.
pub mod Words
pub mod Digits
pub mod Out
pub mod Write
