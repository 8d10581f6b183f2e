pub mod Lists
pub mod Apart
pub mod Chosen
pub mod Intervals
pub mod Steps
pub mod Ends
