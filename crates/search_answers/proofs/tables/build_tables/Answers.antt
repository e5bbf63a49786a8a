-- `build_tables` writes the tables of one sheet behind those of the other, above the room for files.
use Rattle.search_answers.proofs.SearchLaws.{tables-built}
use Rattle.search_answers.proofs.tables.build_tables.Goals as goal

pub returns : goal.returns
returns c = search tables-built
