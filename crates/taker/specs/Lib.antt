-- A frame taken in a record.
pub mod InPlace
