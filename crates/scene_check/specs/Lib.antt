pub mod Walk
pub mod Looks
pub mod Check
pub mod Accepted
pub mod Same
