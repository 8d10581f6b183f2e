-- The charges of one caller.
pub mod Alone
pub mod Standing
pub mod Ends
