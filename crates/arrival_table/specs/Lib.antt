-- The table of arrivals as contracts see it: models, a desk's hand, opening and closing, and the rule between steps.
pub mod Atomic
pub mod Calls
pub mod Closing
pub mod Holding
pub mod Models
pub mod Opening
pub mod Outs
pub mod Steps
