pub mod Particles
pub mod RowStores
pub mod RowReads
pub mod FirstZero
pub mod Volumes
