pub mod Widths
pub mod ModelLines
pub mod Behind
