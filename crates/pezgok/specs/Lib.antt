pub mod Exported
pub mod Looked
pub mod Joined
