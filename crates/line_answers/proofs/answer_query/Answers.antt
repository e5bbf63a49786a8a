-- `answer_query` writes above the unit's lines.
use Rattle.line_answers.proofs.AnswerLaws.{rows-still}
use Rattle.line_answers.proofs.answer_query.Goals as goal

pub returns-in_err-write_all : goal.returns-in_err-write_all
returns-in_err-write_all g c = search rows-still

pub returns : goal.returns
returns g c = search rows-still
