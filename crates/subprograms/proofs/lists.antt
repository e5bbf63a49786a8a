pub mod ListStepLaws
