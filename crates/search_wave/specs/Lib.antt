-- Searches that many workers answer side by side.
pub mod Waves
pub mod Ran
pub mod Pages
