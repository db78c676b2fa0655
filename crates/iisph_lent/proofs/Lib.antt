pub mod Finished
pub mod Stepped
pub mod LentSteps
