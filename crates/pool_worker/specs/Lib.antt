-- A worker's plan, and its steps.
pub mod Plans
pub mod Steps
pub mod Workers
