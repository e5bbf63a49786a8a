pub mod ConvertingLaws
mod CollectingLaws
