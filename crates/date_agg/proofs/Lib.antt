mod Fields
mod Grid
mod Instants
mod Bounds
mod Standing
pub mod Coding
pub mod Made
