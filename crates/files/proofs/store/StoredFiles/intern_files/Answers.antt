-- `store::StoredFiles::intern_files` meets its contract. The loop's invariant: what is left to intern, after the map so far, gives what was asked; the measure is what is
-- left of the sheet.
use native.Mathlib.Omega.{arith}
use Rattle.tlv.proofs.AnswerLaws.{handed}
use Rattle.files.proofs.InterningLaws.{interning-start, interning_over, file-within, file_of-unit, file-room, interning-refused, interning_turn}
use Rattle.files.proofs.store.StoredFiles.intern_files.Goals.{in-Some-added, in_default-added}
use Rattle.files.proofs.store.StoredFiles.intern_files.Goals as goal

pub loop-field-init : goal.loop-field-init
loop-field-init c = interning-start c.requires.files_in c.requires.file_unit_in c.requires.unit_placed c.requires.map_room c.requires.one_at_most (omega arith)

pub intern_at-requires-clause-file_span_in : goal.intern_at-requires-clause-file_span_in
intern_at-requires-clause-file_span_in c = rw c.from-file.ensures (file-within c.loop-field.invariant (rw c.of-s.ensures at c.in-Some.ensures))

pub intern_at-requires-clause-of_unit : goal.intern_at-requires-clause-of_unit
intern_at-requires-clause-of_unit c = rw c.from-file.ensures (file_of-unit c.loop-field.invariant (rw c.of-s.ensures at c.in-Some.ensures))

pub intern_at-requires-clause-map_in_bounds : goal.intern_at-requires-clause-map_in_bounds
intern_at-requires-clause-map_in_bounds c = file-room c.loop-field.invariant (rw c.of-s.ensures at c.in-Some.ensures)

pub loop-field-preserved : goal.loop-field-preserved
loop-field-preserved c =
    let turn = interning_turn c.loop-field.invariant (rw c.of-s.ensures at c.in-Some.ensures) c.in_ok-added.added (rw c.from-file.ensures at c.in_ok-added.ensures) c.intern_at.auto.work c.intern_at.auto.files in
    elim c.match-added.branch [
      | in-Some-added w ↦ rw w.table-is (rw w.in-Some-added.is at turn)
      | in_default-added w ↦ rw w.table-is (rw w.in_default-added.is at turn)
    ]

pub returns-in_err-added : goal.returns-in_err-added
returns-in_err-added c = rw (handed _ _ c.from_residual.ensures.1) (interning-refused c.loop-field.invariant (rw c.of-s.ensures at c.in-Some.ensures) (rw c.from-file.ensures at c.in_err-added.ensures))

pub returns : goal.returns
returns c = interning_over c.loop-field.invariant c.new.ensures.based c.new.ensures.counted (rw c.of-s.ensures at c.in_default.ensures)
