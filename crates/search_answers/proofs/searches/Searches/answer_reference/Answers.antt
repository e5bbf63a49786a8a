-- `searches::Searches::answer_reference` leaves the tables as they are: the next search can start.
use Rattle.search_answers.proofs.SearchLaws.{search_still}
use Rattle.search_answers.proofs.searches.Searches.answer_reference.Goals as goal

pub returns : goal.returns
returns g c = search search_still
