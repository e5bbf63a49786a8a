-- `spans::FileUnit::file_pieces` meets its contract. A file that failed, one without a name, one with an absolute path, and one with a relative path.
use borrow.Author.Rules.{rules}
use Rattle.files.proofs.DirectoryLaws.{empty-span}
use Rattle.files.proofs.PieceLaws.{pieced-failed, pieced-unnamed, pieced-absolute, pieced-relative}
use Rattle.files.proofs.spans.FileUnit.file_pieces.Goals as goal

pub returns : goal.returns
returns c = pieced-relative c.args.s.now c.args.self c.args.file (search rules) _ c.read.ensures _ c.if-read-eq1.false
    c.path_parts-parts.ensures c.if-parts-eq0.false _ (rw c.of.ensures at c.is_absolute_path.ensures) _ _ c.if-is_absolute_path.false
    c.read-number.ensures c.relative_pieces.ensures

pub returns-then-is_absolute_path : goal.returns-then-is_absolute_path
returns-then-is_absolute_path c = rw (empty-span c.default.ensures, empty-span c.default-then-is_absolute_path.ensures) (search (pieced-absolute, (rw c.of.ensures at c.is_absolute_path.ensures)))

pub returns-then-parts-eq0 : goal.returns-then-parts-eq0
returns-then-parts-eq0 c = search pieced-unnamed

pub returns-then-read-eq1 : goal.returns-then-read-eq1
returns-then-read-eq1 c = search pieced-failed
