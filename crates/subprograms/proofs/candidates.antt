pub mod CandidateLaws
pub mod NextEntryLaws
