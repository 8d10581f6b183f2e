mod Rising
mod ValueParts
mod Capped
pub mod Steps
pub mod PlaceOrder
pub mod PageSteps
pub mod InOrder
pub mod Offers
pub mod Swapped
pub mod InRuns
pub mod RunOrder
pub mod RunSteps
mod PageExample
mod Turning
mod Shown
mod LaterKeys
mod WordPlaces
mod CodedSpots
