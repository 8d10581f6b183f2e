-- The answers to searches whose tasks have ended.
pub mod Rising
pub mod Ended
pub mod Charging
pub mod Merged
pub mod Next
