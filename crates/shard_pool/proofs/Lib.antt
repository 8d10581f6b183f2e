pub mod Running
mod Rows
mod Lent
pub mod Passes
pub mod Adding
pub mod Taking
pub mod Ending
pub mod Searches
pub mod Known
pub mod ClosingRun
pub mod Whole
pub mod Returns
pub mod Ended
pub mod Each
pub mod Rearranged
pub mod Shards
pub mod Sums
pub mod Left
pub mod Charges
pub mod Batches
pub mod Plans
pub mod Works
pub mod WorkBatches
pub mod WorkCharges
pub mod WorkLeft
pub mod Skipped
pub mod Knowing
