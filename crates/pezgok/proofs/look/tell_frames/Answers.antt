-- `look::tell_frames` meets its contract: the numbers are those of the answer.
use Rattle.pezgok.proofs.LookLaws.{frames-refused, frames-rowless, frames-row}
use Rattle.pezgok.proofs.look.tell_frames.Goals as goal

pub returns-in-Err : goal.returns-in-Err
returns-in-Err c = rw c.in-Err.is (frames-refused _ c.number.ensures)

pub returns-in-None : goal.returns-in-None
returns-in-None c = rw c.in-Ok.is (frames-rowless c.in-Ok.x c.in-None.is)

pub returns-in-Some : goal.returns-in-Some
returns-in-Some c = rw c.in-Ok.is (frames-row c.in-Ok.x c.in-Some.is)
