-- Rows by nesting.
pub mod Nesting
pub mod Ends
