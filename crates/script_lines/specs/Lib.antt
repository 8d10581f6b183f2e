pub mod Faults
pub mod Handed
pub mod Headers
pub mod Steps
pub mod Reading
