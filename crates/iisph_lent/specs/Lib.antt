pub mod Step
pub mod Lent
