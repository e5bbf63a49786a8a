-- `pieces::path_parts` meets its contract. The directory is the first bytes of the path, and the basename the last.
use Rattle.files.proofs.PieceLaws.{basename-fits, parts_in}
use Rattle.files.proofs.pieces.path_parts.Goals as goal

pub overflow_sub-result : goal.overflow_sub-result
overflow_sub-result c = basename-fits _ _ c.requires (rw c.of-bytes.ensures at c.basename_of-base.ensures)

pub returns : goal.returns
returns c = parts_in _ _ c.requires (rw c.of-bytes.ensures at c.directory_of-own.ensures) (rw c.of-bytes.ensures at c.basename_of-base.ensures)
