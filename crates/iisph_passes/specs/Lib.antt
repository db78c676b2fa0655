pub mod Traverse
