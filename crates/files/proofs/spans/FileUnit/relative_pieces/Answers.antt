-- `spans::FileUnit::relative_pieces` meets its contract. A directory that failed, and the pieces with the compilation directory before it or without.
use Rattle.tlv.proofs.AnswerLaws.{handed}
use Rattle.files.proofs.PieceLaws.{relative-failed, relative-found}
use Rattle.files.proofs.spans.FileUnit.relative_pieces.Goals as goal

pub returns-in_err-directory : goal.returns-in_err-directory
returns-in_err-directory c = rw (handed _ _ c.from_residual.ensures.1) (relative-failed _ _ c.in_err-directory.ensures)

pub returns : goal.returns
returns c = search (relative-found, c.in_ok-directory.ensures)
