pub mod Calendar
pub mod Instants
pub mod Shapes
pub mod DateTexts
pub mod Periods
