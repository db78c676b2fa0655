pub mod Index
pub mod Contacts
pub mod Runs
