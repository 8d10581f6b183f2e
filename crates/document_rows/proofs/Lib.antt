pub mod Added
pub mod Ascending
pub mod Fronts
pub mod Items
pub mod Order
pub mod Places
pub mod Typed
