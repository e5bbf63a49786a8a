-- `spans::FileUnit::named_directory` meets its contract. Directory 0 before version 5, and the others.
use Rattle.files.proofs.DirectoryLaws.{empty-span}
use Rattle.files.proofs.PieceLaws.{named-none, named-some}
use Rattle.files.proofs.spans.FileUnit.named_directory.Goals as goal

pub returns-in_default : goal.returns-in_default
returns-in_default c = rw (empty-span c.default.ensures) (named-none c.requires _ c.in_default.ensures)

pub returns : goal.returns
returns c = named-some c.requires _ _ _ c.in-Some.ensures c.directory_at.ensures
