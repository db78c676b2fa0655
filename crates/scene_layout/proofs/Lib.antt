pub mod Locations
pub mod Filled
pub mod Turns
