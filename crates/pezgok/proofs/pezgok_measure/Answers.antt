-- `pezgok_measure` meets its contract: the numbers are those of the answer of `measure_unit`.
use Rattle.pezgok.proofs.ExportLaws.{exports-measure_lent}
use Rattle.pezgok.proofs.pezgok_measure.Goals as goal

pub returns : goal.returns
returns c = exports-measure_lent c.new-inputs.ensures c.tell.ensures c.measure_unit-answer.ensures
