-- `joined::separator_below` meets its contract. Below an empty directory, and below another, which the path before it ends with.
use Rattle.files.proofs.JoinedLaws.{emptied, filled, below-empty, below-filled}
use Rattle.files.proofs.joined.separator_below.Goals as goal

pub returns-then-is_empty : goal.returns-then-is_empty
returns-then-is_empty c = below-empty _ _ _ (emptied _ c.if-is_empty.ensures) c.separator.ensures

pub returns : goal.returns
returns c = below-filled _ _ _ (filled _ c.if-is_empty.ensures) c.separator-2.ensures
