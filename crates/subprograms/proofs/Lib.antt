pub mod ContextLaws
pub mod LaidPastLaws
pub mod OutputLaws
pub mod StepLaws
pub mod RangesLaws
pub mod EntryRangeLaws
pub mod EntryStepLaws
