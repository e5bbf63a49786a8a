-- `sites::Sites::finish_call_sites` meets its contract.
use Rattle.dies.proofs.SiteLaws.{Closing}
use Rattle.dies.proofs.sites.Sites.finish_call_sites.Given as goal

abbrev pub invariant-loop-i : goal.invariant-loop-i
invariant-loop-i l = Closing l.initial.work l.work l.stack l.fn.self.opened l.closed_at l.fn.self.closed l.depth l.i l.closed
