pub mod Computed
pub mod Chord
pub mod Entry
pub mod Tested
pub mod Floor
pub mod Found
pub mod Falling
