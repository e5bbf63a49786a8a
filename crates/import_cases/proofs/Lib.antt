pub mod DwarfCases
pub mod ListCases
