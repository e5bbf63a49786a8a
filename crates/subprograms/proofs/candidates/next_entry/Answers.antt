-- `candidates::next_entry` meets its contract.
use Rattle.subprograms.proofs.candidates.NextEntryLaws.{seeking-next}
use Rattle.subprograms.proofs.candidates.next_entry.Goals as goal

pub loop-field-preserved : goal.loop-field-preserved
loop-field-preserved c = seeking-next c.loop-field.invariant c.in-Some.ensures c.if-field-eq-UNIT_TAG.false c.if-field-eq-ENTRY_TAG.false
