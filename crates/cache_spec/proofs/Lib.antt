pub mod CachedLaws
pub mod NothingKept
pub mod WholeReduction
