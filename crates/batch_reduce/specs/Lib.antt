-- The reduction of a batch.
pub mod Parts
pub mod Taken
pub mod Ends
pub mod Reduced
