-- `import::measure_unit` meets its contract: what `measure_by` promises of one unit.
use Rattle.dwarf.proofs.import.MeasureLaws.{of_unit}
use Rattle.dwarf.proofs.import.measure_unit.Goals as goal

pub returns : goal.returns
returns c = of_unit c.measure_by.ensures
