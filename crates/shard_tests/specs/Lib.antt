-- The index, the documents and the aggregation that the tests speak of.
pub mod Example
pub mod Months
