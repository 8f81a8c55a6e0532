-- What the demands shut out, and a worked example of the third.
pub mod Teeth
pub mod Example
