pub mod Dealt
pub mod Finished
pub mod Indexed
pub mod Packing
pub mod Placed
pub mod Loaded
pub mod Reread
