-- No two meters at one address: Addresses is the page to read; Examples shows what its conditions are for.
pub mod Addresses
pub mod Examples
