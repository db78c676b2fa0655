pub mod Lists
pub mod Numbering
pub mod Addressings
pub mod Stores
pub mod Fills
pub mod Rows
pub mod RowParts
pub mod Writing
