pub mod Standard
pub mod Program
pub mod Conforms
pub mod SignedCases
pub mod Scan
pub mod Passing
pub mod PassLaws
