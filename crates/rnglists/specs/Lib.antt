pub mod Standard
pub mod RangeLists
pub mod Conforms
pub mod Cases
pub mod Sizes
pub mod Steps
pub mod Room
