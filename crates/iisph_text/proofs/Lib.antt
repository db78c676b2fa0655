pub mod Room
pub mod Texts
pub mod Ran
pub mod Done
