-- `dies::has_entries` meets its contract.
use native.Mathlib.Omega.{arith}
use borrow.Author.Tests.{ltb-false, eqb-true, not-false}
use Rattle.dies.proofs.EntryWalkLaws.{none-below, none-unit, none-stop, entry-room}
use Rattle.dies.proofs.dies.has_entries.Goals as goal

pub returns-in_default : goal.returns-in_default
returns-in_default c = λ _. none-below _ _ c.in_default.ensures _

pub read-requires : goal.read-requires
read-requires c = omega (arith, entry-room _ _ _ c.in-Some.ensures c.requires c.if-field-eq-ENTRY_TAG.true)

pub returns-then-field-eq-ENTRY_TAG : goal.returns-then-field-eq-ENTRY_TAG
returns-then-field-eq-ENTRY_TAG c = λ z. none-stop _ _ _ c.in-Some.ensures c.requires c.if-field-eq-ENTRY_TAG.true _ c.read.ensures (ltb-false _ _ z)

pub returns : goal.returns
returns c = λ z. none-unit _ _ _ c.in-Some.ensures _ (eqb-true _ _ (not-false _ z))
