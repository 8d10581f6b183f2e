pub mod Standing
pub mod OneCharge
pub mod Moving
pub mod Tasks
pub mod Merges
