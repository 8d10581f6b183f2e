pub mod Arounds
pub mod Children
