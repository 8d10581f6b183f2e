pub mod Charging
pub mod ColumnBytes
pub mod Indexing
pub mod Loading
pub mod Loads
