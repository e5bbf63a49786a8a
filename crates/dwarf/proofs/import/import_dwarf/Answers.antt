-- `import::import_dwarf` meets its contract: what `import_by` promises of all units.
use Rattle.dwarf.proofs.AnswerLaws.{of_all}
use Rattle.dwarf.proofs.import.import_dwarf.Goals as goal

pub returns-clause-is : goal.returns-clause-is
returns-clause-is c = of_all c.import_by.ensures.is
