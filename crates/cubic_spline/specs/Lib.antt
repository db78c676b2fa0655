pub mod Normalizer
pub mod Shape
pub mod Exact
pub mod Bound
pub mod Answer
pub mod Apply
pub mod Rows
