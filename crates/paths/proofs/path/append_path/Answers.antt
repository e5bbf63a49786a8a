-- `path::append_path` meets its contract. Four ways: nothing to put, nothing before it, a slash at the end of the path or the start of the component, and
-- neither.
use Rattle.paths.proofs.JoinLaws.{append_empty, append-start, append_ends, append_starts, append-slash}
use Rattle.paths.proofs.path.append_path.Goals.{then-work-end-eq47-via-then-work-end-eq47, then-work-end-eq47-via-else-work-end-eq47+then-component-eq47}
use Rattle.paths.proofs.path.append_path.Goals as goal

pub returns-then-m-eq0 : goal.returns-then-m-eq0
returns-then-m-eq0 c = search append_empty

pub returns-then-n-eq0 : goal.returns-then-n-eq0
returns-then-n-eq0 c = search append-start

pub returns-then-work-end-eq47 : goal.returns-then-work-end-eq47
returns-then-work-end-eq47 c = elim c.then-work-end-eq47.branch [
  | then-work-end-eq47-via-then-work-end-eq47 w ↦ search append_ends
  | then-work-end-eq47-via-else-work-end-eq47+then-component-eq47 w ↦ search append_starts
]

pub returns : goal.returns
returns c = search append-slash
