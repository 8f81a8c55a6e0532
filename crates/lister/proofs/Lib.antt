-- The laws of the lister: what its functions rest on, and, in Laws, what holds of its calls.
pub mod Cut
pub mod Begin
pub mod Listed
pub mod Doing
pub mod Chunked
pub mod Laws
