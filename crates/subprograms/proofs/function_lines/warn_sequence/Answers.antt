-- `function_lines::warn_sequence` meets its contract.
use native.Mathlib.Omega.{arith}
use mathlib.Core.Path.{refl}
use Rattle.subprograms.proofs.function_lines.SequenceLaws.{warned-none, warned-about}
use Rattle.subprograms.proofs.function_lines.warn_sequence.Goals as goal

pub returns-in-Some : goal.returns-in-Some
returns-in-Some c = rw (c.in-Some.is, c.if-invalid.true) (warned-about _ (rw c.number-kind.ensures at c.warn_about.ensures))

pub returns-in_default : goal.returns-in_default
returns-in_default c = warned-none _ _ (rw (c.in-Some.is, c.if-invalid.false) refl) (omega arith) (omega arith)

pub returns-in_default-2 : goal.returns-in_default-2
returns-in_default-2 c = warned-none _ _ (rw c.in_default.is refl) (omega arith) (omega arith)
