pub mod Kept
pub mod KeyCosts
pub mod Putting
pub mod Moves
mod Changes
mod Refusals
pub mod Finals
pub mod Cursors
