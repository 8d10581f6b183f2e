pub mod SampleLaws
pub mod GapSamples
pub mod BatchSamples
pub mod Indexes
pub mod Rooms
