pub mod Changes
pub mod Motions
