pub mod DetailStepLaws
pub mod RangeStepLaws
pub mod SectionStepLaws
