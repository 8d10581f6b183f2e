pub mod Computing
pub mod Mappings
mod RefusedBodies
mod AcceptedKinds
mod AcceptedQueries
mod RefusedQueries
mod AcceptedIndexLines
mod RefusedIndexLines
mod ActionLines
mod Documents
mod Dates
mod DateHistograms
mod Hashes
mod Scripts
mod Limits
mod Edges
mod PipelineBodies
pub mod Steps
pub mod PathOrder
pub mod MappingLaws
pub mod IndexLineLaws
pub mod ValueLaws
pub mod ShardWeights
pub mod Refusing
pub mod QueryRefusals
pub mod KindRefusals
pub mod PipeRefusals
pub mod BodyRefusals
pub mod LineRefusals
pub mod DocumentRefusals
pub mod ScriptRefusals
