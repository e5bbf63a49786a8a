-- `answer_queries` keeps the unit's lines.
use Rattle.rows.specs.Selects.{RowsIn}
use Rattle.line_answers.proofs.answer_queries.Given as goal

abbrev pub invariant-loop-query : goal.invariant-loop-query
invariant-loop-query g l = RowsIn l.work l.l
