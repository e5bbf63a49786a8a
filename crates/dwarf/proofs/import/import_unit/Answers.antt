-- `import::import_unit` meets its contract: what `import_by` promises of one unit.
use Rattle.dwarf.proofs.AnswerLaws.{of_unit}
use Rattle.dwarf.proofs.import.import_unit.Goals as goal

pub returns-clause-is : goal.returns-clause-is
returns-clause-is c = of_unit c.import_by.ensures.is
