-- A generated script, line by line.
pub mod Documents
