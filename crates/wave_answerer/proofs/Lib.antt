-- Lemmas on many workers.
mod Rises
mod Counting
mod Waves
mod Opened
mod Totals
