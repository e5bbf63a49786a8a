-- `below::ending_below` meets its contract: the answer is the better of what is found and of what is left.
use mathlib.Core.Path.{◌≡◌}
use Prim.Native.Nat.{◌-◌}
use lib.ListN.{length}
use Rattle.lookup.specs.Tray.{functions_at}
use Rattle.tlv.specs.Lists.{map_option}
use Rattle.lookup.specs.Lookup.{ending_below}
use Rattle.lookup.specs.Walk.{Stands}
use Rattle.lookup.proofs.StepLaws.{functions_from}
use Rattle.lookup.proofs.below.NearestWalkLaws.{best_of, Started}
use Rattle.lookup.proofs.below.ending_below.Given as goal

abbrev pub invariant-loop-field : goal.invariant-loop-field
invariant-loop-field l = Stands l.s l.p × (map_option (λ f. f.place) (ending_below l.address (functions_at l.s)) ≡ best_of l.found l.latest (ending_below l.address (functions_from l.s l.p))) × Started l.found l.latest

abbrev pub decreases-loop-field : goal.decreases-loop-field
decreases-loop-field l = length l.s - l.p
