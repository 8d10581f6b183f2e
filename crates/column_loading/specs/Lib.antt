-- What is said of documents that go into columns as bulk actions bring them.
pub mod Drafts
pub mod Forms
pub mod Loadings
pub mod Packed
pub mod Slots
