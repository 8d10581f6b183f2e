pub mod Computing
pub mod ShapeLemmas
pub mod TextLemmas
pub mod DayLemmas
pub mod InstantLemmas
pub mod PaddedLemmas
pub mod PrintingLemmas
pub mod MonthLemmas
pub mod PeriodLemmas
pub mod KeyLemmas
pub mod CycleLemmas
mod ReadingExamples
mod PrintingExamples
mod PeriodExamples
