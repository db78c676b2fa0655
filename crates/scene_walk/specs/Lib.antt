pub mod Walk
pub mod Plainly
pub mod Accepted
