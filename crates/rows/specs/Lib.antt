pub mod Sizes
pub mod Stored
pub mod Sorts
pub mod Repeats
pub mod Front
pub mod Selects
