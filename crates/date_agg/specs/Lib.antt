-- Codes for the keys of date histograms.
pub mod Codes
pub mod Dates
pub mod Grid
