-- Tasks.
pub mod Ends
pub mod Room
pub mod Phases
pub mod Tops
pub mod Blocks
pub mod Grown
pub mod Stops
