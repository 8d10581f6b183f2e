-- What fitting documents and searches are told of, beyond one row and one search.
pub mod Stores
pub mod Wholes
pub mod Pages
pub mod Indexes
