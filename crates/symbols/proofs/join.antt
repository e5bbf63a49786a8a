mod AnswerLaws
mod ResultLaws
