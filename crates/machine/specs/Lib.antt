pub mod Machine
pub mod LineRows
pub mod Conforms
pub mod Bounds
pub mod Steps
pub mod Cases
pub mod Programs
