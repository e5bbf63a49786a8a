-- `store::StoredFiles::look_up_file` meets its contract: before version 5 number 0 has no file, and the others number from 1.
use Rattle.files.proofs.lookup.LookupLaws.{looked-none, looked-some}
use Rattle.files.proofs.store.StoredFiles.look_up_file.Goals as goal

pub returns-in_err-n : goal.returns-in_err-n
returns-in_err-n c = rw c.from_residual.ensures (looked-none c.requires.file_unit_in c.requires.files_in c.in_err-n.ensures)

pub returns : goal.returns
returns c = looked-some c.requires.file_unit_in _ c.of-s.ensures c.in_ok-n.ensures c.look_up_nth.ensures
