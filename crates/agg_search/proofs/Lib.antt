pub mod Following
pub mod AnswersAlone
pub mod KeptTask
pub mod OneTask
pub mod Numbers
pub mod ShardLists
pub mod TaskRange
pub mod MergeEnds
pub mod Parts
pub mod Batching
pub mod Outcomes
pub mod AnswerParts
pub mod Ends
mod SoloEnds
pub mod LastKeys
pub mod NextPages
pub mod Onward
