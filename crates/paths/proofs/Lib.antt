pub mod LastSlash
pub mod WindowsSplit
pub mod Joining
pub mod Directories
pub mod Paths
pub mod PathBounds
pub mod PathCodeLaws
pub mod JoinLaws
