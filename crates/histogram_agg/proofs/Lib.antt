pub mod Starts
pub mod Rows
pub mod Given
mod Walking
mod Once
pub mod RowKeys
pub mod Coding
pub mod Made
