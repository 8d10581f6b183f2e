pub mod Costs
pub mod Merged
pub mod Beginning
