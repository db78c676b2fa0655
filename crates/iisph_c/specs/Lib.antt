pub mod Step
pub mod Needs
pub mod Validate
pub mod Keep
