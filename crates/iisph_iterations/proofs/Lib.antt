pub mod Averages
pub mod Heads
pub mod Iterated
pub mod Solving
