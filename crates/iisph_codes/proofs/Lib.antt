pub mod Refusals
pub mod Kernel
