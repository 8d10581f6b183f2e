pub mod Runs
mod Scripts
mod RoutingExamples
pub mod Held
mod IdExamples
mod OrdersExample
mod PartialExamples
mod SettingsLineExamples
mod Rounds
mod ScanExamples
pub mod FailureLaws
pub mod AnswerCounts
pub mod WaveRuns
mod NoOutputs
pub mod SearchesHeld
pub mod GivenBack
pub mod SoloHeld
pub mod ScanLaws
mod AloneRuns
mod OutputExamples
mod StatusExamples
mod WorkersExamples
mod ScriptExamples
mod Refutations
mod WaveExamples
pub mod Reduced
mod PartialWaves
pub mod Untripped
mod RoomExamples
pub mod WaveCounts
pub mod LineCounts
pub mod WavesWithRoom
pub mod PlainAnswers
pub mod PlainRounds
pub mod Completing
pub mod InputsWithRoom
pub mod LoadedFits
pub mod ScanEnds
pub mod RoomHowever
pub mod SameRounds
pub mod QuietFronts
pub mod FullRuns
pub mod Responses
pub mod LeftCounts
