pub mod Declarations
pub mod DeclaredSteps
