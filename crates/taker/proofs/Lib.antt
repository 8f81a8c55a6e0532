-- What is put back into a record.
pub mod InPlace
