-- Bounds on what a task can hold.
pub mod Capped
pub mod Paths
pub mod Fields
pub mod Counters
pub mod Staying
pub mod Roots
pub mod Searches
pub mod Nodes
pub mod Widths
