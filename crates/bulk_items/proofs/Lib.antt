pub mod Ending
pub mod Keeping
