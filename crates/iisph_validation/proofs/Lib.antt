pub mod Validated
