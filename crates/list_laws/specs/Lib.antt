pub mod Sorting
pub mod Among
