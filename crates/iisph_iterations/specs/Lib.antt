pub mod Errors
pub mod PressureSolve
