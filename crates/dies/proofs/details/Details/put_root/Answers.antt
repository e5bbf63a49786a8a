-- `details::Details::put_root` meets its contract.
use Rattle.dies.proofs.NodeStepLaws.{root-put}
use Rattle.dies.proofs.details.Details.put_root.Goals as goal

pub returns : goal.returns
returns c = search root-put
