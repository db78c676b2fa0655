pub mod Halves
pub mod Roundings
pub mod Rows
