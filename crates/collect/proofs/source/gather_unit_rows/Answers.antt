-- `source::gather_unit_rows` meets its contract: by the source.
use Rattle.tlv.proofs.AnswerLaws.{handed}
use Rattle.collect.proofs.UnitRowsLaws.{fields-fault, program-rows}
use Rattle.collect.proofs.source.gather_unit_rows.Goals as goal

pub returns-in_err-count_rows : goal.returns-in_err-count_rows
returns-in_err-count_rows c = rw (handed _ _ c.from_residual.ensures.1) (fields-fault c.args.main.now c.args.work.now c.args.p c.args.lines c.args.source c.in_default.is c.in_err-count_rows.ensures)

pub returns : goal.returns
returns c = program-rows c.args.main.now c.args.work.now c.args.p c.args.lines c.args.source
    c.in-Some.is c.requires.rows_fit c.gather_program_rows.auto.work c.in_ok-gathered.ensures
