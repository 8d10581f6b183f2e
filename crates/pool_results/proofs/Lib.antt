pub mod Joining
pub mod Among
pub mod Parts
pub mod Beginning
pub mod Merging
pub mod Pooling
pub mod Ending
