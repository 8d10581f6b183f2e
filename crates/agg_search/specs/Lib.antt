-- Searches by one worker.
pub mod Defined
pub mod Stops
pub mod Progressing
pub mod Reached
pub mod Keeping
pub mod Answering
pub mod Reducing
pub mod Stepping
pub mod Telling
pub mod Paging
