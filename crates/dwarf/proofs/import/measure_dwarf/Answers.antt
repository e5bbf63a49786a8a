-- `import::measure_dwarf` meets its contract: what `measure_by` promises of all units.
use Rattle.dwarf.proofs.import.MeasureLaws.{of_all}
use Rattle.dwarf.proofs.import.measure_dwarf.Goals as goal

pub returns : goal.returns
returns c = of_all c.measure_by.ensures
