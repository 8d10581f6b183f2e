-- A pool of searches over an index.
pub mod PoolOf
pub mod Tasks
pub mod Results
pub mod Joined
pub mod Gathered
pub mod Settled
pub mod Desks
pub mod Ends
pub mod TaskResults
pub mod Batches
pub mod Closed
