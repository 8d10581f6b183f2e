pub mod HandedLemmas
mod HeaderLemmas
pub mod LineLemmas
pub mod EntryLemmas
