-- Kinds whose buckets are queries.
pub mod Filtering
pub mod Numbers
pub mod PreparedFilters
