-- `gather::gather_list` meets its contract. The loop's invariant: the ranges put so far, and those of the list from here on that fit, are all that fit.
use Rattle.ranges.proofs.gather.ListGatherLaws.{list-start, list_done, list-turn}
use Rattle.ranges.proofs.gather.gather_list.Goals as goal

pub loop-found-init : goal.loop-found-init
loop-found-init c = list-start _ _ _ _ _ _ _ _ _ _

pub loop-found-preserved : goal.loop-found-preserved
loop-found-preserved c = let N = rw c.in-Some.is at c.in_ok-found.ensures in list-turn c.loop-found.invariant N c.args.nest.behind c.put_fitting-n.ensures c.put_fitting-n.auto.work

pub returns : goal.returns
returns c = let N = rw c.in_default.is at c.in_ok-found.ensures in list_done c.loop-found.invariant N
