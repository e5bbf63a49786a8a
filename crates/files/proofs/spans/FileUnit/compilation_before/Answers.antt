-- `spans::FileUnit::compilation_before` meets its contract. The compilation directory, or the empty span.
use Rattle.files.proofs.DirectoryLaws.{empty-span}
use Rattle.files.proofs.PieceLaws.{before-none}
use Rattle.files.proofs.spans.FileUnit.compilation_before.Goals as goal

pub returns : goal.returns
returns c = rw (empty-span c.default.ensures) (before-none _ _ _ _ _ _ (rw c.of.ensures at c.needs_compilation.ensures) c.if-needs_compilation.false)
