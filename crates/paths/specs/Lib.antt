pub mod Paths
pub mod PathConforms
pub mod Join
