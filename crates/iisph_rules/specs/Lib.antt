pub mod Coefficients
pub mod Iteration
pub mod Step
pub mod Answer
pub mod Endings
pub mod PassedOver
pub mod Largest
pub mod Locality
