pub mod Turns
pub mod Traversal
pub mod Passes
