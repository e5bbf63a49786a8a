-- `pezgok_measure_dwarf` meets its contract: the numbers are those of the answer of `measure_dwarf`.
use Rattle.pezgok.proofs.ExportLaws.{exports-measure_dwarf_lent}
use Rattle.pezgok.proofs.whole.pezgok_measure_dwarf.Goals as goal

pub returns : goal.returns
returns c = exports-measure_dwarf_lent c.new-inputs.ensures c.tell.ensures c.measure_dwarf-answer.ensures
