pub mod Walked
pub mod Within
pub mod Plainly
