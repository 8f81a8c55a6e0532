-- Why the loop over the links sums what is owed.
pub mod Links
