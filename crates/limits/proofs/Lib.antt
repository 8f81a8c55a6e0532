-- One law, of a test behind the test of the count, says where two limits agree.
pub mod Limits
