-- Codes for the keys of histograms.
pub mod Codes
pub mod RowCodes
