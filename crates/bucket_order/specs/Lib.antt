pub mod Kinds
pub mod Composites
pub mod Ordered
