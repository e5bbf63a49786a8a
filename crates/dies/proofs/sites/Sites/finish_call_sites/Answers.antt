-- `sites::Sites::finish_call_sites` meets its contract.
use Rattle.dies.proofs.SiteLaws.{closing_next, closing_stop, closing_end}
use Rattle.dies.proofs.sites.Sites.finish_call_sites.Goals as goal

pub returns-then-read-depth : goal.returns-then-read-depth
returns-then-read-depth c = search closing_stop

pub loop-i-preserved : goal.loop-i-preserved
loop-i-preserved c = search closing_next

pub returns : goal.returns
returns c = search closing_end
