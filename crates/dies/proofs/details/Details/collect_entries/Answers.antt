-- `details::Details::collect_entries` meets its contract.
use mathlib.Core.Path.{refl}
use native.Mathlib.Omega.{arith}
use Rattle.tlv.proofs.AnswerLaws.{numbered, handed}
use Rattle.dies.proofs.details.CollectingLaws.{collecting-start, collecting-none, collecting-unit, collecting-other, entry-fields, entry_known, collecting-stop, collecting-refused, collecting-entry}
use Rattle.dies.proofs.details.Details.collect_entries.Goals as goal

pub loop-field-init : goal.loop-field-init
loop-field-init c = collecting-start _ _ _ _ _ _ c.requires.details_in c.requires.placed c.requires.entries_known c.requires.fits (omega arith) (omega arith)

pub returns-then-field-eq-UNIT_TAG : goal.returns-then-field-eq-UNIT_TAG
returns-then-field-eq-UNIT_TAG c = collecting-unit c.loop-field.invariant c.in-Some.ensures c.if-field-eq-UNIT_TAG.true

pub read-requires : goal.read-requires
read-requires c = omega (arith, entry-fields c.loop-field.invariant c.in-Some.ensures c.if-field-eq-ENTRY_TAG.true)

pub returns-then-read-self : goal.returns-then-read-self
returns-then-read-self c = collecting-stop c.loop-field.invariant c.in-Some.ensures c.if-field-eq-ENTRY_TAG.true c.read.ensures c.if-read-self.true

pub collect_entry-requires-clause-entry_known : goal.collect_entry-requires-clause-entry_known
collect_entry-requires-clause-entry_known c = entry_known c.loop-field.invariant c.in-Some.ensures c.if-field-eq-ENTRY_TAG.true

pub returns-in_err-collect_entry : goal.returns-in_err-collect_entry
returns-in_err-collect_entry c = rw (handed _ _ c.from_residual.ensures.1) (collecting-refused c.loop-field.invariant c.in-Some.ensures c.if-field-eq-ENTRY_TAG.true c.read.ensures c.if-read-self.false c.in_err-collect_entry.ensures (numbered _))

pub loop-field-preserved-in_ok-collect_entry : goal.loop-field-preserved-in_ok-collect_entry
loop-field-preserved-in_ok-collect_entry c = collecting-entry c.loop-field.invariant c.in-Some.ensures c.if-field-eq-ENTRY_TAG.true c.read.ensures c.if-read-self.false c.in_ok-collect_entry.ensures refl c.collect_entry.auto.work

pub loop-field-preserved : goal.loop-field-preserved
loop-field-preserved c = collecting-other c.loop-field.invariant c.in-Some.ensures c.if-field-eq-UNIT_TAG.false c.if-field-eq-ENTRY_TAG.false

pub returns : goal.returns
returns c = collecting-none c.loop-field.invariant c.in_default.ensures
