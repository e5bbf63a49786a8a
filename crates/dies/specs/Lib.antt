pub mod Answers
pub mod FrameStack
pub mod Details
pub mod DetailState
pub mod Calls
pub mod Past
