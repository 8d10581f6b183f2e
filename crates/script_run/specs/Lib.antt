-- What a run writes.
pub mod Charged
pub mod Ends
pub mod Inputs
pub mod Runs
pub mod Statuses
