-- `convert::Conversion::collect_rows` meets its contract: the rows are gathered, and then finished.
use Rattle.files.proofs.UnitLaws.{unit-next}
use Rattle.tlv.proofs.AnswerLaws.{handed}
use Rattle.collect.proofs.collect.GatheredLaws.{gathered-conversion, gathered-fault, gathered-finish}
use Rattle.collect.proofs.convert.Conversion.collect_rows.Goals as goal

pub gather_unit_rows-requires-clause-placed : goal.gather_unit_rows-requires-clause-placed
gather_unit_rows-requires-clause-placed c = unit-next c.requires.conversion_in.placed

pub returns-in_err-gathered : goal.returns-in_err-gathered
returns-in_err-gathered c = rw (handed _ _ c.from_residual.ensures.1) (gathered-fault c.requires.conversion_in c.in_err-gathered.ensures)

pub finish_lines-requires-clause-conversion_in : goal.finish_lines-requires-clause-conversion_in
finish_lines-requires-clause-conversion_in c = gathered-conversion c.requires.conversion_in c.in_ok-gathered.ensures c.gather_unit_rows.auto.work

pub returns : goal.returns
returns c = gathered-finish c.requires.conversion_in c.in_ok-gathered.ensures c.finish_lines.ensures
