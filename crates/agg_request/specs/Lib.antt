pub mod Children
pub mod Fitted
