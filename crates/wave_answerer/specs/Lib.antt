-- Many workers.
pub mod Worked
