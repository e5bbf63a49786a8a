-- `answer_queries` leaves the tables ready for the next query.
use Rattle.search_answers.specs.Searches.{Ready}
use Rattle.search_answers.proofs.searches.Searches.answer_queries.Given as goal

abbrev pub invariant-loop-query : goal.invariant-loop-query
invariant-loop-query g l = Ready l.self l.work
