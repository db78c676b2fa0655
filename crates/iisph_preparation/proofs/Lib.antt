pub mod RowsFilled
pub mod IterationStart
pub mod ZeroRefusals
pub mod Prepared
