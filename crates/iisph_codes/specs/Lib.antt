pub mod Numbers
pub mod Report
pub mod Kernel
pub mod ClockList
