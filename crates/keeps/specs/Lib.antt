-- What a sound device keeps, whatever it is given.
pub mod Keeps
