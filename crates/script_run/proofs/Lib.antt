-- Lemmas on what a run writes.
mod Fronts
mod Unread
mod Outputs
mod Loaded
mod Unloaded
mod WholeRuns
