-- A frame walked past every device, without links.
pub mod Walk
pub mod Inner
pub mod Laws
