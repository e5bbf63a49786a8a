-- `details::Details::put_sites` meets its contract.
use Rattle.dies.specs.Details.{main_of, supplementary_of}
use Rattle.dies.proofs.details.SitesPutLaws.{Siting}
use Rattle.dies.proofs.details.Details.put_sites.Given as goal

abbrev pub invariant-loop-i : goal.invariant-loop-i
invariant-loop-i l = Siting (main_of l.fn.self) (supplementary_of l.fn.self) l.fn.self l.i-end l.fn.walk.at l.initial.work l.initial.records l.work l.records l.place l.i l.past
