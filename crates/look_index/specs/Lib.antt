pub mod Index
pub mod Unmoved
pub mod LookIn
