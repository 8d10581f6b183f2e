pub mod TotalLaws
pub mod SameOrder
pub mod CompositeLaws
pub mod Firsts
