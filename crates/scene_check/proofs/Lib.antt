pub mod Accepted
pub mod Early
pub mod Records
pub mod OwnBytes
pub mod Named
pub mod Looks
pub mod Checks
