-- Listeners.
pub mod Hearing
pub mod Standing
