-- One worker.
pub mod Worked
