-- `normalize::same_line` meets its contract.
use Rattle.rows.proofs.normalize.SameLaws.{files-differ, lines-decide}
use Rattle.rows.proofs.normalize.same_line.Goals as goal

pub returns-then-read : goal.returns-then-read
returns-then-read c = search lines-decide

pub returns-else-read : goal.returns-else-read
returns-else-read c = search files-differ
