pub mod Tasks
pub mod Hands
pub mod Gathering
pub mod SentParts
pub mod SharedParts
pub mod Tables
