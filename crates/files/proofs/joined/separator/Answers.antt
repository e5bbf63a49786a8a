-- `joined::separator` meets its contract. Five ways: no path, no component, a slash at the end of the path, one at the start of the component, and neither.
use Rattle.files.proofs.JoinedLaws.{emptied, filled, separated_first, separated_none, separated_ends, separated_starts, separated-slash}
use Rattle.files.proofs.joined.separator.Goals.{then-is_empty-via-then-is_empty, then-is_empty-via-else-is_empty+then-is_empty-2}
use Rattle.files.proofs.joined.separator.Goals.{then-is_empty-via-else-is_empty+else-is_empty-2+then-path-eq47}
use Rattle.files.proofs.joined.separator.Goals.{then-is_empty-via-else-is_empty+else-is_empty-2+else-path-eq47+then-component-eq47}
use Rattle.files.proofs.joined.separator.Goals as goal

pub returns-then-is_empty : goal.returns-then-is_empty
returns-then-is_empty c = elim c.then-is_empty.branch [
  | then-is_empty-via-then-is_empty w ↦ separated_first _ _ (emptied _ w.if-is_empty.ensures)
  | then-is_empty-via-else-is_empty+then-is_empty-2 w ↦ separated_none _ _ (emptied _ w.if-is_empty-2.ensures)
  | then-is_empty-via-else-is_empty+else-is_empty-2+then-path-eq47 w ↦
      separated_ends _ _ (filled _ w.if-is_empty.ensures) (filled _ w.if-is_empty-2.ensures) w.if-path-eq47.true
  | then-is_empty-via-else-is_empty+else-is_empty-2+else-path-eq47+then-component-eq47 w ↦
      separated_starts _ _ (filled _ w.if-is_empty.ensures) (filled _ w.if-is_empty-2.ensures) w.if-path-eq47.false w.if-component-eq47.true
]

pub returns : goal.returns
returns c = separated-slash _ _ (filled _ c.if-is_empty.ensures) (filled _ c.if-is_empty-2.ensures) c.if-path-eq47.false c.if-component-eq47.false
