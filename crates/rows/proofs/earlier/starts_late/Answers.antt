-- `earlier::starts_late` meets its contract.
use Rattle.rows.proofs.ForRangeLaws.{late-none, late-some}
use Rattle.rows.proofs.earlier.starts_late.Goals as goal

pub returns-then-rows-eq0 : goal.returns-then-rows-eq0
returns-then-rows-eq0 c = search late-none

pub returns-else-rows-eq0 : goal.returns-else-rows-eq0
returns-else-rows-eq0 c = search late-some
