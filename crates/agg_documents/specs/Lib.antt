pub mod Kept
pub mod Shards
pub mod Slots
