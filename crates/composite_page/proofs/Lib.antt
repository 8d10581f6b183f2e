pub mod PageOrder
