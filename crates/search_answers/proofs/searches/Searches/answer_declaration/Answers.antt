-- `searches::Searches::answer_declaration` starts from an empty table of files, and leaves the tables as they are.
use Rattle.search_answers.proofs.SearchLaws.{declaring_in, declared-still}
use Rattle.search_answers.proofs.searches.Searches.answer_declaration.Goals as goal

pub resolve_declaration_line_counted-declared-requires-clause-declaring_in :
    goal.resolve_declaration_line_counted-declared-requires-clause-declaring_in
resolve_declaration_line_counted-declared-requires-clause-declaring_in g c = search declaring_in

pub returns : goal.returns
returns g c = search declared-still
