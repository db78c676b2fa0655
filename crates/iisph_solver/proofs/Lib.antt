pub mod TwoSteps
