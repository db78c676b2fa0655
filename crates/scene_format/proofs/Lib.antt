pub mod Exponents
pub mod Forms
