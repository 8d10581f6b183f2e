-- What is said of texts behind one another.
pub mod Pieces
