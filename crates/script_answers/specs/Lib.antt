-- Answers to the third section of a script.
pub mod Answering
pub mod Ends
pub mod Hearing
pub mod Outputs
pub mod Puts
pub mod Rest
pub mod Stepping
pub mod Steps
pub mod Waves
