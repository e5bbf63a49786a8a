-- `calls::call_file` meets its contract.
use native.Mathlib.Omega.{arith}
use Rattle.tlv.proofs.AnswerLaws.{handed}
use Rattle.dies.proofs.AttributeReads.{accepted-placed}
use Rattle.dies.proofs.CallLaws.{file-missing, file-found, file-warned}
use Rattle.dies.proofs.calls.call_file.Goals as goal

pub file_index_attribute-requires-clause-placed : goal.file_index_attribute-requires-clause-placed
file_index_attribute-requires-clause-placed c = accepted-placed c.requires.accepted c.requires.entry_known

pub returns-in_default : goal.returns-in_default
returns-in_default c = file-missing (omega arith) (omega arith) c.in_default.ensures

pub returns-in-Some-get_index : goal.returns-in-Some-get_index
returns-in-Some-get_index c = file-found (omega arith) (omega arith) c.in-Some.ensures c.get_index.ensures c.in-Some-get_index.is

pub returns-in_err-warned : goal.returns-in_err-warned
returns-in_err-warned c = rw (handed _ _ c.from_residual.ensures.1) (file-warned (omega arith) (omega arith) c.in-Some.ensures c.get_index.ensures c.in_default-get_index.is (rw c.number-kind.ensures at c.in_err-warned.ensures))

pub returns : goal.returns
returns c = file-warned (omega arith) (omega arith) c.in-Some.ensures c.get_index.ensures c.in_default-get_index.is (rw c.number-kind.ensures at c.in_ok-warned.ensures)
