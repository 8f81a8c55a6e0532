-- What an extended device's rules leave in its record, and the frames that they are for.
pub mod Own
