-- `store::StoredFiles::look_up_pieces` meets its contract. The file is laid to be looked up.
use native.Mathlib.Omega.{arith}
use Rattle.files.proofs.AddedLaws.{laid-files, laid-file}
use Rattle.files.proofs.lookup.LookupLaws.{found-laid}
use Rattle.files.proofs.store.StoredFiles.look_up_pieces.Goals as goal

pub laid_number-requires-clause-files_in : goal.laid_number-requires-clause-files_in
laid_number-requires-clause-files_in c = laid-files c.requires.files_in c.scratch.ensures c.lay-laid.ensures (omega arith)

pub laid_number-requires-clause-laid_file : goal.laid_number-requires-clause-laid_file
laid_number-requires-clause-laid_file c = laid-file c.requires.files_in c.scratch.ensures c.lay-laid.ensures

pub returns : goal.returns
returns c = found-laid c.requires.files_in c.scratch.ensures c.lay-laid.ensures (omega arith) c.laid_number.ensures
