pub mod Samples
pub mod TraceLaws
pub mod CostLaws
pub mod SearchCosts
pub mod CoverLaws
pub mod KeyBounds
pub mod BoundLaws
pub mod TaskLaws
mod examples
