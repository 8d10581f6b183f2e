-- What lies in the slots while workers share tasks.
pub mod Pools
pub mod Runs
pub mod Passes
pub mod Carried
pub mod Sets
pub mod Gathered
pub mod Pooled
pub mod Ended
