pub mod Stopping
pub mod Summation
