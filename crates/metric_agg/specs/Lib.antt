-- Bounds on metrics.
pub mod Bounded
