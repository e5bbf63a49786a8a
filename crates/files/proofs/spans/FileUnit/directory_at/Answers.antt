-- `spans::FileUnit::directory_at` meets its contract. A directory that is not there, one that failed, and its path.
use native.Mathlib.Omega.{arith}
use Rattle.files.proofs.DirectoryLaws.{empty-span}
use Rattle.files.proofs.PieceLaws.{directory-past, directory-failed, directory-path}
use Rattle.files.proofs.spans.FileUnit.directory_at.Goals as goal

pub returns : goal.returns
returns c = search directory-path

pub returns-then-read-eq1 : goal.returns-then-read-eq1
returns-then-read-eq1 c = search directory-failed

pub returns-then-self-index : goal.returns-then-self-index
returns-then-self-index c = rw (empty-span c.default.ensures) (directory-past c.requires _ (omega arith))
