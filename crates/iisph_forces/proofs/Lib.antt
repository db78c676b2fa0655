pub mod Offsets
pub mod Gathered
pub mod InitialAnswers
pub mod Contacts
