-- `pezgok_import_dwarf` meets its contract: the numbers are those of the answer of `import_dwarf`.
use borrow.Author.Rules.{rules}
use Rattle.pezgok.proofs.ExportLaws.{exports-dwarf_lent}
use Rattle.pezgok.proofs.whole.pezgok_import_dwarf.Goals as goal

pub returns : goal.returns
returns c = search (rules, exports-dwarf_lent c.new-inputs.ensures {vs = c.tell.new.values} c.tell.ensures c.import_dwarf-answer.ensures.is)
