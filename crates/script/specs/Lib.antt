-- What the lines of a script say (01, the lister).
pub mod Script
