pub mod Cut
pub mod Lines
pub mod Memory
pub mod Outside
