pub mod Accelerations
pub mod PressureChanges
pub mod Motions
