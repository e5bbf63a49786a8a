-- `path::copy_in` meets its contract. The loop copies byte after byte: what is left, laid down, gives what was asked.
use Rattle.paths.proofs.JoinLaws.{copy_start, copy_step, copy_done}
use Rattle.paths.proofs.path.copy_in.Goals as goal

pub loop-i-init : goal.loop-i-init
loop-i-init c = search copy_start

pub loop-i-preserved : goal.loop-i-preserved
loop-i-preserved c = search copy_step

pub returns : goal.returns
returns c = search copy_done
