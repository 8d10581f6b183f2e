-- What a lent value stands for.
pub mod Members
pub mod View
