pub mod Listed
pub mod Passed
pub mod Refusing
