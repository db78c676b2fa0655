pub mod Lists
pub mod Stores
