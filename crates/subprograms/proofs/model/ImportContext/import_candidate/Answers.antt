-- `ImportContext::import_candidate` meets its contract.
use native.Mathlib.Omega.{arith}
use Rattle.subprograms.proofs.StepLaws.{rejects-from}
use Rattle.subprograms.proofs.candidates.CandidateLaws.{candidate-tombstone, candidate-live, candidate-dead}
use Rattle.subprograms.proofs.model.ImportContext.import_candidate.Goals as goal

pub returns-then-is_tombstone-clause-is : goal.returns-then-is_tombstone-clause-is
returns-then-is_tombstone-clause-is c = candidate-tombstone _ _ _ _ _ c.requires.context_in c.is_tombstone.ensures c.if-is_tombstone.true
    (omega (arith, c.well_formed)) (omega (arith, c.well_formed)) (omega (arith, c.well_formed)) c.rejected.ensures

pub returns-then-is_live_range-clause-is : goal.returns-then-is_live_range-clause-is
returns-then-is_live_range-clause-is c = candidate-live _ _ _ _ _ c.requires.context_in c.is_tombstone.ensures c.if-is_tombstone.false
    c.is_live_range.ensures c.if-is_live_range.true c.import_range.ensures.is

pub returns-clause-is : goal.returns-clause-is
returns-clause-is c = candidate-dead _ _ _ _ _ c.requires.context_in c.is_tombstone.ensures c.if-is_tombstone.false
    c.is_live_range.ensures c.if-is_live_range.false (omega (arith, c.well_formed)) (omega (arith, c.well_formed)) (rw c.number.ensures at c.put_warning.ensures) (rejects-from c.rejected-2.ensures)
