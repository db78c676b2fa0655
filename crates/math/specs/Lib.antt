pub mod Real
pub mod Vector
pub mod Rows
