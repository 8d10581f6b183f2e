pub mod Causes
pub mod Counts
pub mod Paths
pub mod Selection
pub mod Standing
pub mod Steps
