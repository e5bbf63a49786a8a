pub mod Symbols
pub mod Join
pub mod Means
pub mod Answers
pub mod Walk
pub mod Extents
