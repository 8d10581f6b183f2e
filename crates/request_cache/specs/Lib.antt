-- What shards answered to searches, and tasks that ask for it first.
pub mod Entries
pub mod Tasks
