pub mod Codes
pub mod Counts
pub mod Lent
pub mod Prepared
pub mod Trim
