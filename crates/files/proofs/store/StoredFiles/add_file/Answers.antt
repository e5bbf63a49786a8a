-- `store::StoredFiles::add_file` meets its contract. The file is laid to be looked up, and is found or new.
use native.Mathlib.Omega.{arith}
use Rattle.files.proofs.AddedLaws.{laid-files, laid-file, found-adds, missing-place, adds-laid}
use Rattle.files.proofs.store.StoredFiles.add_file.Goals as goal

pub laid_number-requires-clause-files_in : goal.laid_number-requires-clause-files_in
laid_number-requires-clause-files_in c = laid-files c.requires.files_in c.scratch.ensures (rw c.of-s.ensures at c.lay-laid.ensures) (omega arith)

pub laid_number-requires-clause-laid_file : goal.laid_number-requires-clause-laid_file
laid_number-requires-clause-laid_file c = rw c.of-s.ensures (laid-file c.requires.files_in c.scratch.ensures (rw c.of-s.ensures at c.lay-laid.ensures))

pub append_file-requires-clause-files_in : goal.append_file-requires-clause-files_in
append_file-requires-clause-files_in c = laid-files c.requires.files_in c.scratch.ensures (rw c.of-s.ensures at c.lay-laid.ensures) (omega arith)

pub append_file-requires-clause-is_new : goal.append_file-requires-clause-is_new
append_file-requires-clause-is_new c = missing-place c.requires.files_in c.scratch.ensures (rw c.of-s.ensures at c.lay-laid.ensures) (rw c.of-s.ensures at c.in-None.ensures)

pub returns-in-Some : goal.returns-in-Some
returns-in-Some c = found-adds c.requires.files_in c.scratch.ensures (rw c.of-s.ensures at c.lay-laid.ensures) (rw c.of-s.ensures at c.in-Some.ensures) (omega arith) (omega arith) (omega (arith, c.well_formed))

pub returns-in-None : goal.returns-in-None
returns-in-None c = adds-laid c.requires.files_in c.scratch.ensures (rw c.of-s.ensures at c.lay-laid.ensures) c.append_file.ensures
