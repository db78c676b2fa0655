pub mod Sections
pub mod Traversals
pub mod Indexes
pub mod Targets
pub mod ContactLists
pub mod Runs
pub mod Bases
