mod EqualParts
mod EqualKeys
mod EqualQueries
mod EqualKinds
pub mod EqualPipes
pub mod EqualSearches
