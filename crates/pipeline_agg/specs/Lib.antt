pub mod Bounds
pub mod Summaries
pub mod Parents
pub mod Told
pub mod Placed
pub mod Entries
pub mod Objects
