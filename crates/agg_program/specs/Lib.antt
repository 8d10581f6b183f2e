-- What the system tells of a run.
pub mod Arguments
pub mod Listening
