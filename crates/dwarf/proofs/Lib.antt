pub mod TablesLaws
pub mod EachLaws
pub mod AnswerLaws
