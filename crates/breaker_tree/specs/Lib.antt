pub mod Charge
pub mod Reopening
pub mod Statistics
