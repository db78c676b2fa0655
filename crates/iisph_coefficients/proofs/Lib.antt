pub mod Targets
pub mod Sums
pub mod BothKinds
