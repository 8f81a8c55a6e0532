-- The laws of scripts: lines read, and items filled in.
pub mod Scripts
pub mod Items
