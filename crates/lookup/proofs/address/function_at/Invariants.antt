-- `address::function_at` meets its contract.
use mathlib.Core.Path.{◌≡◌}
use Prim.Native.Nat.{◌-◌}
use lib.ListN.{length}
use Rattle.tlv.specs.Lists.{first}
use Rattle.lookup.specs.Tray.{functions_at}
use Rattle.lookup.specs.Walk.{Stands}
use Rattle.lookup.proofs.StepLaws.{functions_from}
use Rattle.lookup.proofs.address.WalkLaws.{holding}
use Rattle.lookup.proofs.address.function_at.Given as goal

abbrev pub invariant-loop-field : goal.invariant-loop-field
invariant-loop-field l = Stands l.s l.p × (first (holding l.address) (functions_at l.s) ≡ first (holding l.address) (functions_from l.s l.p))

abbrev pub decreases-loop-field : goal.decreases-loop-field
decreases-loop-field l = length l.s - l.p
