pub mod Tables
pub mod Units
pub mod Given
pub mod Runs
pub mod Lent
pub mod Answers
pub mod Sizes
pub mod Part
