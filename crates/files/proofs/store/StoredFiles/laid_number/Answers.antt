-- `store::StoredFiles::laid_number` meets its contract. What was laid is the file's directory, and is found or not.
use native.Mathlib.Omega.{arith}
use mathlib.Core.Path.{sym, ap, ◌∙◌}
use Rattle.std.specs.Prelude.{Some, None}
use Rattle.tlv.specs.Lists.{map_option}
use Rattle.files.specs.Hash.{hash_of}
use Rattle.files.proofs.AddedLaws.{laid-entry, found_number}
use Rattle.files.proofs.lookup.LookupLaws.{numbered-place}
use Rattle.files.proofs.store.StoredFiles.laid_number.Goals as goal

pub find_file-requires-clause-hashed : goal.find_file-requires-clause-hashed
find_file-requires-clause-hashed c = c.requires.laid_file.hashed ∙ ap hash_of (sym (laid-entry _ _ c.scratch-at.ensures c.of.ensures c.requires.laid_file))

pub overflow_cast-result : goal.overflow_cast-result
overflow_cast-result c = let small = found_number c.requires.files_in (laid-entry _ _ c.scratch-at.ensures c.of.ensures c.requires.laid_file) c.in_ok-i.ensures in
    omega arith

pub overflow_add-result : goal.overflow_add-result
overflow_add-result c = let small = found_number c.requires.files_in (laid-entry _ _ c.scratch-at.ensures c.of.ensures c.requires.laid_file) c.in_ok-i.ensures in
    omega arith

pub returns : goal.returns
unfolding map_option
returns c = numbered-place _ _ _ _ (Some c.in_ok-i.i) (laid-entry _ _ c.scratch-at.ensures c.of.ensures c.requires.laid_file) c.in_ok-i.ensures

pub returns-in_err-i : goal.returns-in_err-i
unfolding map_option
returns-in_err-i c = rw c.from_residual.ensures (numbered-place _ _ _ _ None (laid-entry _ _ c.scratch-at.ensures c.of.ensures c.requires.laid_file) c.in_err-i.ensures)
