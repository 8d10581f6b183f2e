pub mod Arranged
pub mod Faults
pub mod Paths
pub mod Shards
