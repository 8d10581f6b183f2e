-- The charges of a task.
pub mod Charged
pub mod Ended
