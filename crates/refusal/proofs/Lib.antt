-- Numbers says that no refusal has the number of none, and no two have one number.
pub mod Numbers
