pub mod Beneath
pub mod CollectedLemmas
pub mod Finding
pub mod PathOrder
pub mod Steps
