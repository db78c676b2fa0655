pub mod Bytes
pub mod Format
pub mod Refusals
pub mod Within
pub mod Scene
pub mod SceneOf
pub mod Packed
