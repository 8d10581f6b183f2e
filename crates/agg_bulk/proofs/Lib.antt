mod EndLemmas
mod ColumnLemmas
mod IndexLemmas
mod FittingLemmas
mod SectionLemmas
mod StepLemmas
