-- Keys and pages of composites.
pub mod Sources
pub mod Parts
pub mod Odometer
pub mod InOrder
pub mod FirstPages
pub mod PageCodes
pub mod Runs
pub mod OnlyParts
pub mod PageExample
