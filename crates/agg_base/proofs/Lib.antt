pub mod CutLemmas
pub mod FaultLemmas
pub mod StepLemmas
pub mod Gave
pub mod WriteLemmas
pub mod HandedLemmas
pub mod SearchLemmas
pub mod MemoryLemmas
