pub mod Buckets
pub mod Tokens
pub mod Seen
pub mod NoteZones
