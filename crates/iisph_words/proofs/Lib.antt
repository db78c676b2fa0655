pub mod Numbers
pub mod Texts
pub mod WordWidths
