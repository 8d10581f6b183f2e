pub mod Amounts
pub mod Lists
pub mod NameLemmas
mod OffsetTexts
mod DatedBounds
