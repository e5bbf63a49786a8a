-- `operand::skip_operands` meets its contract. What is left of the operands is passed over as all are.
use Rattle.std.proofs.Common.{◌≡◌, ◌+◌, ◌-◌, arith}
use Rattle.std.proofs.lemmas.Result.{err_from_is_err_and}
use Rattle.line_program.proofs.SkipLaws.{going_done, going_err, going_next}
use Rattle.line_program.proofs.operand.skip_operands.Goals as goal

pub loop-preserved : goal.loop-preserved
loop-preserved c =
    let e : c.args.n - c.loop.counter - 1 ≡ c.args.n - (c.loop.counter + 1) = omega arith in
    (omega arith, rw (← e) (going_next c.loop.invariant.1 (omega arith) c.in_ok-p.ensures))

pub returns-in_err-p : goal.returns-in_err-p
returns-in_err-p c =
    let p = err_from_is_err_and c.from_residual.result c.from_residual.ensures.1 in
    rw (p.1, p.2) (going_err c.loop.invariant.1 (omega arith) c.in_err-p.ensures)

pub returns : goal.returns
returns c = going_done c.loop.invariant.1 (omega arith)
