pub mod CutLaws
pub mod TotalLaws
pub mod ValueLaws
pub mod InRange
mod SummaryLaws
pub mod SiblingLaws
pub mod EntryLaws
pub mod Wides
pub mod Silent
pub mod Views
pub mod PlacedLaws
pub mod RunningLaws
pub mod ObjectLaws
pub mod BucketLaws
pub mod MadeLaws
pub mod PlainNodes
pub mod StayInRange
pub mod NodesLaws
