pub mod Rows
pub mod Vectors
pub mod Doubles
pub mod Order
