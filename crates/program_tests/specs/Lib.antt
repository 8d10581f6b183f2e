pub mod SampleGaps
pub mod SampleMapping
pub mod SampleTerms
