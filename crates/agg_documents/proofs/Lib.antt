pub mod Dealing
pub mod Entries
pub mod Places
pub mod Putting
pub mod Weighing
