-- `import::measure_by` meets its contract: the import on buffers of one byte, whose figures do not depend on them.
use Rattle.tlv.proofs.AnswerLaws.{handed}
use Rattle.dwarf.specs.Lent.{unseen_of}
use Rattle.dwarf.proofs.import.MeasureLaws.{measures-refused, measures_past, measures-done}
use Rattle.dwarf.proofs.import.measure_by.Goals as goal

pub returns-in_err-ran : goal.returns-in_err-ran
returns-in_err-ran c = rw (handed _ _ c.from_residual.ensures.1)
    (measures-refused c.args.options.ordinal (unseen_of c.args.inputs c.args.options c.args.work.now) c.in_err-ran.ensures.is c.in_err-ran.ensures.cleared)

pub returns-then-ran : goal.returns-then-ran
returns-then-ran c = measures_past c.args.options.ordinal (unseen_of c.args.inputs c.args.options c.args.work.now) c.in_ok-ran.ensures.is c.if-ran.true c.in_ok-ran.ensures.cleared

pub returns : goal.returns
returns c = measures-done c.args.options.ordinal (unseen_of c.args.inputs c.args.options c.args.work.now) c.in_ok-ran.ensures.is c.if-ran.false c.from.ensures c.in_ok-ran.ensures.cleared
