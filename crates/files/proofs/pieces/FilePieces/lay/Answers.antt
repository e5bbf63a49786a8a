-- `pieces::FilePieces::lay` meets its contract.
use native.Mathlib.Omega.{arith}
use Rattle.files.proofs.AddedLaws.{laid-room, laid-at}
use Rattle.files.proofs.pieces.FilePieces.lay.Goals as goal

pub overflow_add-end : goal.overflow_add-end
overflow_add-end c = let h = laid-room c.requires.pieces_in c.lay_directory-len.ensures in omega arith

pub slice_bounds-hash_bytes-end : goal.slice_bounds-hash_bytes-end
slice_bounds-hash_bytes-end c = let h = laid-room c.requires.pieces_in c.lay_directory-len.ensures in omega arith

pub returns : goal.returns
returns c = laid-at c.requires.pieces_in c.lay_directory-len.ensures c.hash_bytes.ensures (rw c.of.ensures at c.hash_bytes-hash.ensures)
