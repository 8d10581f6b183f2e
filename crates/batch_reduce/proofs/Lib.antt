pub mod Joining
pub mod Holding
