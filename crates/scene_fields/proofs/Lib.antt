pub mod Reached
pub mod Stopped
pub mod Walks
pub mod Folded
pub mod Found
