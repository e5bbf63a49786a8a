-- `checks::check_both` meets its contract: what the checks of both inputs say together.
use native.Mathlib.Omega.{arith}
use Rattle.tlv.proofs.AnswerLaws.{handed}
use Rattle.checks.proofs.CheckLaws.{both-first, both-second, checked-few}
use Rattle.checks.proofs.checks.check_both.Goals as goal

pub overflow_add-result : goal.overflow_add-result
overflow_add-result c = omega (arith, checked-few _ _ c.in_ok-m.ensures, checked-few _ _ c.in_ok-s.ensures)

pub returns-in_err-m : goal.returns-in_err-m
returns-in_err-m c = rw (handed _ _ c.from_residual.ensures.1) (both-first c.in_err-m.ensures)

pub returns-in_err-s : goal.returns-in_err-s
returns-in_err-s c = rw (handed _ _ c.from_residual-in_err-s.ensures.1) (both-second c.in_ok-m.ensures c.in_err-s.ensures)
