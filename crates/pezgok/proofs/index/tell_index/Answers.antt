-- `index::tell_index` meets its contract: the numbers are those of the answer.
use Rattle.pezgok.proofs.LookLaws.{index-refused, index-finished}
use Rattle.pezgok.proofs.index.tell_index.Goals as goal

pub returns-in-Err : goal.returns-in-Err
returns-in-Err c = rw c.in-Err.is (index-refused _ c.number.ensures)

pub returns-in-Ok : goal.returns-in-Ok
returns-in-Ok c = rw c.in-Ok.is (index-finished c.in-Ok.x)
