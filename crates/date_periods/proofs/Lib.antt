mod CivilMonths
pub mod ReachLemmas
