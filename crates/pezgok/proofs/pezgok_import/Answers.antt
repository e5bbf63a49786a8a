-- `pezgok_import` meets its contract: the numbers are those of the answer of `import_unit`.
use borrow.Author.Rules.{rules}
use Rattle.pezgok.proofs.ExportLaws.{exports-lent}
use Rattle.pezgok.proofs.pezgok_import.Goals as goal

pub returns : goal.returns
returns c = search (rules, exports-lent c.new-inputs.ensures {vs = c.tell.new.values} c.tell.ensures c.import_unit-answer.ensures.is)
