-- Lemmas on one worker.
mod SameHolds
mod Rounds
pub mod Totals
pub mod Refusals
pub mod Idle
pub mod Bodies
mod Scans
