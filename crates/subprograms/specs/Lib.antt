pub mod Stats
pub mod Text
pub mod Contexts
pub mod Entries
pub mod Outputs
pub mod Steps
