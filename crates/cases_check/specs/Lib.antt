pub mod Printed
pub mod Turns
