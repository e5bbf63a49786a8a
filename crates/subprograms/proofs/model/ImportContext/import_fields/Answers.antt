-- `ImportContext::import_fields` meets its contract.
use mathlib.Core.Path.{refl}
use native.Mathlib.Omega.{arith}
use Rattle.tlv.proofs.AnswerLaws.{numbered, handed}
use Rattle.subprograms.proofs.StepLaws.{rejects-from}
use Rattle.subprograms.proofs.RangesLaws.{named-within, reason-short, payload-length, reason-part, named-whole, named_none, named-refused, named-after}
use Rattle.subprograms.proofs.model.ImportContext.import_fields.Goals as goal

pub returns-in_default-clause-is : goal.returns-in_default-clause-is
returns-in_default-clause-is c = named-whole _ _ _ c.requires.context_in c.requires.subprogram_in.entry c.requires.placed.0 c.in_default.ensures c.import_ranges.ensures.is

pub put_malformed_ranges-requires : goal.put_malformed_ranges-requires
put_malformed_ranges-requires c = let h = c.requires.placed.0 in let N = c.in-Some.ensures in
    rw (reason-part h N c.payload-failure.ensures) (reason-short h N)

pub returns-then-read-eq0-clause-is : goal.returns-then-read-eq0-clause-is
returns-then-read-eq0-clause-is c = let h = c.requires.placed.0 in let N = c.in-Some.ensures in
    named_none _ _ _ c.requires.context_in c.requires.subprogram_in.entry h N c.read.ensures c.if-read-eq0.true (omega (arith, c.well_formed)) (omega (arith, c.well_formed))
    (rw (reason-part h N c.payload-failure.ensures) at c.put_malformed_ranges.ensures) (rejects-from c.rejected.ensures)

pub returns-in_err-state-clause-is : goal.returns-in_err-state-clause-is
returns-in_err-state-clause-is c = rw (handed _ _ c.from_residual.ensures.1) (named-refused _ _ _ c.requires.context_in c.requires.subprogram_in.entry c.requires.placed.0 c.in-Some.ensures c.read.ensures c.if-read-eq0.false c.in_err-state.ensures.is (numbered _))

pub put_malformed_ranges-requires-2 : goal.put_malformed_ranges-requires-2
put_malformed_ranges-requires-2 c = let h = c.requires.placed.0 in let N = c.in-Some.ensures in
    rw (reason-part h N c.payload-failure.ensures) (reason-short h N)

pub returns-clause-is : goal.returns-clause-is
returns-clause-is c = let h = c.requires.placed.0 in let N = c.in-Some.ensures in
    named-after _ _ _ c.requires.context_in c.requires.subprogram_in.entry h N c.read.ensures c.if-read-eq0.false c.in_ok-state.ensures.is refl c.import_ranges-2.auto.work
    (omega (arith, c.well_formed, c.import_ranges-2.ensures.same.records-len)) (omega (arith, c.well_formed, c.import_ranges-2.ensures.same.files-len))
    (rw (reason-part h N c.payload-failure.ensures) at c.put_malformed_ranges-2.ensures) (rejects-from c.rejected-2.ensures)

pub slice_bounds-reason-count : goal.slice_bounds-reason-count
slice_bounds-reason-count c = let h = c.requires.placed.0 in omega (arith, named-within h c.in-Some.ensures, payload-length h c.in-Some.ensures c.payload-failure.ensures)

pub slice_bounds-reason-start : goal.slice_bounds-reason-start
slice_bounds-reason-start c = let h = c.requires.placed.0 in omega (arith, named-within h c.in-Some.ensures, payload-length h c.in-Some.ensures c.payload-failure.ensures)

pub read-requires : goal.read-requires
read-requires c = omega (arith, named-within c.requires.placed.0 c.in-Some.ensures)
