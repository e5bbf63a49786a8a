-- `store::StoredFiles::intern_file` meets its contract.
use native.Mathlib.Omega.{arith}
use Rattle.tlv.proofs.AnswerLaws.{handed}
use Rattle.files.proofs.InternLaws.{pieces-possible, interns-failed, interns-unnamed, interns_full, interns-number}
use Rattle.files.proofs.store.StoredFiles.intern_file.Goals as goal

pub returns-in_err-pieces : goal.returns-in_err-pieces
returns-in_err-pieces c = rw (handed _ _ c.from_residual.ensures.1) (interns-failed (rw c.of-s.ensures at c.in_err-pieces.ensures))

pub returns-in_default : goal.returns-in_default
returns-in_default c = interns-unnamed (rw (c.of-s.ensures, c.in_default.is) at c.in_ok-pieces.ensures) c.requires.files_in (omega arith)

pub add_file-requires-clause-possible : goal.add_file-requires-clause-possible
add_file-requires-clause-possible c = pieces-possible (rw (c.of-s.ensures, c.in-Some.is) at c.in_ok-pieces.ensures) c.requires.listed c.requires.of_unit

pub returns-in_err-added : goal.returns-in_err-added
returns-in_err-added c = rw (handed _ _ c.from_residual-in_err-added.ensures.1) (interns_full (rw (c.of-s.ensures, c.in-Some.is) at c.in_ok-pieces.ensures) c.in_err-added.ensures)

pub returns : goal.returns
returns c = interns-number (rw (c.of-s.ensures, c.in-Some.is) at c.in_ok-pieces.ensures) c.in_ok-added.ensures
