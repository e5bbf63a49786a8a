pub mod ExtentLaws
pub mod IndexLaws
pub mod HereLaws
pub mod Indexing
