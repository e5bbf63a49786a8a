-- `run::run_import` meets its contract: refusals 1 to 3, or what follows.
use mathlib.Core.Path.{refl}
use Rattle.tlv.proofs.AnswerLaws.{handed}
use Rattle.dwarf.specs.Lent.{asked_of}
use Rattle.dwarf.proofs.run.RunLaws.{run-oversize, run-refused, run-accepted}
use Rattle.dwarf.proofs.run.run_import.Goals as goal

pub returns-then-is_oversize-clause-is : goal.returns-then-is_oversize-clause-is
returns-then-is_oversize-clause-is c = run-oversize c.args.options (asked_of c.args.inputs c.args.options c.args.work.now c.args.outputs.now) refl c.is_oversize.ensures c.if-is_oversize.true

pub returns-in_err-number-clause-is : goal.returns-in_err-number-clause-is
returns-in_err-number-clause-is c = rw (handed _ _ c.from_residual.ensures.1)
    (run-refused c.args.options (asked_of c.args.inputs c.args.options c.args.work.now c.args.outputs.now) refl c.is_oversize.ensures c.if-is_oversize.false c.in_err-number.ensures)

pub returns-clause-is : goal.returns-clause-is
returns-clause-is c =
    run-accepted c.args.options (asked_of c.args.inputs c.args.options c.args.work.now c.args.outputs.now) refl c.is_oversize.ensures c.if-is_oversize.false c.in_ok-number.ensures c.import_accepted.ensures.is
