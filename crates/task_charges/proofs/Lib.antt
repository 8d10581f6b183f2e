pub mod Fronts
pub mod Steps
pub mod Refusing
pub mod Ending
pub mod Beginning
