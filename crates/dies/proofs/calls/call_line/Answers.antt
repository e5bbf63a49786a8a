-- `calls::call_line` meets its contract.
use native.Mathlib.Omega.{arith}
use Rattle.tlv.proofs.AnswerLaws.{handed}
use Rattle.dies.proofs.AttributeReads.{accepted-placed}
use Rattle.dies.proofs.CallLaws.{line-missing, line_small, line-warned}
use Rattle.dies.proofs.calls.call_line.Goals as goal

pub unsigned_attribute-requires-clause-placed : goal.unsigned_attribute-requires-clause-placed
unsigned_attribute-requires-clause-placed c = accepted-placed c.requires.accepted c.requires.entry_known

pub returns-in_default : goal.returns-in_default
returns-in_default c = line-missing (omega arith) (omega arith) c.in_default.ensures

pub returns-in-Ok : goal.returns-in-Ok
returns-in-Ok c = rw c.in-Ok.ensures.1 (line_small (omega arith) (omega arith) c.in-Some.ensures c.in-Ok.ensures.0)

pub returns-in_err-warned : goal.returns-in_err-warned
returns-in_err-warned c = rw (handed _ _ c.from_residual.ensures.1) (line-warned (omega arith) (omega arith) c.in-Some.ensures (omega arith) (rw c.number-kind.ensures at c.in_err-warned.ensures))

pub returns : goal.returns
returns c = line-warned (omega arith) (omega arith) c.in-Some.ensures (omega arith) (rw c.number-kind.ensures at c.in_ok-warned.ensures)
