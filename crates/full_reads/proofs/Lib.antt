pub mod Filling
pub mod Given
