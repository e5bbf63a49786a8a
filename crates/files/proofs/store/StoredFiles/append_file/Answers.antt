-- `store::StoredFiles::append_file` meets its contract. That there is room follows from the files being different and possible ones.
use native.Mathlib.Omega.{arith}
use Rattle.tlv.proofs.AnswerLaws.{handed}
use Rattle.files.proofs.DirectoryLaws.{span-short}
use Rattle.files.proofs.RoomLaws.{room-left}
use Rattle.files.proofs.AddedLaws.{past-numbers, full-adds, path-short, new-adds}
use Rattle.files.proofs.store.StoredFiles.append_file.Goals as goal

pub overflow_cast-self : goal.overflow_cast-self
overflow_cast-self c = omega (arith, room-left c.requires.files_in _ c.requires.possible c.requires.is_new)

pub returns-in_err-number : goal.returns-in_err-number
returns-in_err-number c = let full = past-numbers _ _ c.checked_add.ensures c.in_err-number.ensures.value in
    rw (handed _ _ c.from_residual.ensures.1, full.0) (full-adds c.requires.is_new full.1)

pub link_file-requires-clause-has_room : goal.link_file-requires-clause-has_room
link_file-requires-clause-has_room c = let left = room-left c.requires.files_in _ c.requires.possible c.requires.is_new in
    (omega arith, omega arith)

pub put_file-written-requires : goal.put_file-written-requires
put_file-written-requires c = path-short _ _ _ _ c.requires.laid_file.short (rw c.of-name.ensures (span-short _ c.args.pieces.base (rw c.of-s.ensures c.requires.pieces_in.base)))

pub returns : goal.returns
returns c = let fits = rw c.in_ok-number.ensures.ok_part at c.checked_add.ensures in
    rw fits.1 (new-adds _ c.scratch-at.ensures c.of-name.ensures c.of-s.ensures c.requires.files_in c.requires.pieces_in c.requires.possible c.requires.laid_file c.requires.is_new (omega (arith, fits))
    c.put_file-written.ensures c.link_file.ensures (omega arith))
