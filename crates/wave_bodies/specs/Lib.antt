-- The charges of the bodies of searches that are answered side by side.
pub mod Charged
pub mod Asking
pub mod Read
