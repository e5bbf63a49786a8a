pub mod StoredLaws
pub mod SortLaws
pub mod LeadingLaws
pub mod FilterLaws
pub mod FrontLaws
pub mod FrontExamples
pub mod SequenceLaws
pub mod ForRangeLaws
