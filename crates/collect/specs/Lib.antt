pub mod Headers
pub mod Passes
pub mod Tables
pub mod Sources
pub mod Converts
pub mod Walks
pub mod Collects
pub mod Stages
