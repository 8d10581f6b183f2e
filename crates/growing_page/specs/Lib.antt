-- Pages of composites while they grow.
pub mod GrowingPages
