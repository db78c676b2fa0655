pub mod Near
pub mod Fractions
pub mod Rounding
pub mod Relative
pub mod Counts
pub mod Steps
pub mod Quotients
