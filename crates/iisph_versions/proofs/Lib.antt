pub mod Scenes
pub mod Walks
pub mod Versions
pub mod Rules
