-- A shard request cache, defined.
pub mod Hashing
pub mod Cache
pub mod CachedAnswers
