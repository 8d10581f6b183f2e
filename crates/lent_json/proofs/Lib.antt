pub mod NoJson
pub mod Ordered
pub mod Turns
pub mod Views
