-- The test of searches.
pub mod Equality
