pub mod ArrangedLaws
pub mod ChangeLaws
mod CompositeExamples
pub mod Computing
mod CountExamples
mod DatedNoteExamples
mod DateExamples
mod DateHistogramExamples
mod FilterExamples
mod HistogramExamples
mod LineExamples
mod MetricExamples
mod NestedExamples
mod NoteExamples
mod OrderExamples
mod OutcomeExamples
mod PipelineExamples
pub mod WithoutPipelines
pub mod Samples
mod SoloExamples
pub mod SoloLaws
mod TermsExamples
