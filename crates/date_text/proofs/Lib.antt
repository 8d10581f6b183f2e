pub mod Days
pub mod ClockLemmas
pub mod OffsetLemmas
pub mod MillisLemmas
pub mod Padding
