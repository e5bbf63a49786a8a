-- `ImportContext::import_ranges` meets its contract.
use mathlib.Core.Path.{refl, ap}
use Prim.Native.Nat.{ℕ}
use lib.Dec.{eqb}
use native.Mathlib.Omega.{arith}
use Rattle.tlv.proofs.AnswerLaws.{numbered, handed}
use Rattle.buffers.specs.Table.{chunk}
use Rattle.subprograms.proofs.candidates.NextEntryLaws.{begins-after}
use Rattle.subprograms.proofs.OutputLaws.{outputs-start, outputs-then}
use Rattle.subprograms.proofs.RangesLaws.{going_start, going_done, going-within, going-refused, going_turn}
use Rattle.subprograms.proofs.model.ImportContext.import_ranges.Goals as goal

pub loop-field-init : goal.loop-field-init
loop-field-init c = record {
  going = going_start _ _ _ _ _ _ c.requires.context_in c.requires.subprogram_in.entry c.requires.placed.0;
  below = c.requires.subprogram_in.below;
  same = outputs-start;
}

pub returns-in_err-state-clause-is : goal.returns-in_err-state-clause-is
unfolding chunk
returns-in_err-state-clause-is c = rw (handed _ _ c.from_residual.ensures.1) (going-refused c.loop-field.invariant.going c.in-Some.ensures c.read-range.ensures.of_part (ap (λ (n : ℕ). eqb n 1) c.read-dead.ensures) c.in_err-state.ensures.is (numbered _))

pub loop-field-preserved : goal.loop-field-preserved
unfolding chunk
loop-field-preserved c = let S = c.import_candidate.ensures.same in record {
  going = going_turn c.loop-field.invariant.going c.in-Some.ensures c.read-range.ensures.of_part (ap (λ (n : ℕ). eqb n 1) c.read-dead.ensures) c.in_ok-state.ensures.is refl
      c.import_candidate.auto.work S.records-len S.files-len S.warnings-len;
  below = begins-after c.loop-field.invariant.below (c.next_entry-below.ensures _ c.loop-field.invariant.below.known);
  same = outputs-then c.loop-field.invariant.same S;
}

pub returns-clause-is : goal.returns-clause-is
returns-clause-is c = let G = c.loop-field.invariant.going in
    going_done G c.in_default.ensures (omega (arith, c.well_formed, G.records-size)) (omega (arith, c.well_formed, G.files-size)) (omega (arith, c.well_formed, G.warnings-size))

pub read-range-requires : goal.read-range-requires
read-range-requires c = omega (arith, going-within c.loop-field.invariant.going c.in-Some.ensures)

pub read-dead-requires : goal.read-dead-requires
read-dead-requires c = omega (arith, going-within c.loop-field.invariant.going c.in-Some.ensures)
