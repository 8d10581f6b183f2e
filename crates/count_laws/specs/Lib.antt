-- Words of the laws on counts: paths, true counts and errors of terms, groups and pages of a composite.
pub mod Scans
pub mod CompositeGroups
pub mod Paths
pub mod ReturnedPaths
pub mod TermsErrors
pub mod TermsSums
