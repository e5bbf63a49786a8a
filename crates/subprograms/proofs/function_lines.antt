pub mod DeclaredLineLaws
pub mod FunctionLineLaws
pub mod SequenceLaws
