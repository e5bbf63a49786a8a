-- `window::put_functions` meets its contract: who lays the fields from here on has laid all.
use Prim.Native.Nat.{◌-◌}
use mathlib.Core.Bool.{Bool}
use lib.ListN.{length}
use Rattle.tlv.specs.declared.model.AddressRange.{AddressRange}
use Rattle.tlv.specs.RangeTests.{Tests}
use Rattle.buffers.proofs.BufferLaws.{Left}
use Rattle.lookup.specs.Tray.{functions_at}
use Rattle.lookup.specs.Walk.{Stands}
use Rattle.lookup.specs.Listing.{wanted_bytes}
use Rattle.lookup.proofs.window.ListingLaws.{left_bytes}
use Rattle.lookup.proofs.window.put_functions.Given as goal

abbrev pub invariant-loop-field : goal.invariant-loop-field
invariant-loop-field g l = record {
  stands : Stands l.s l.p;
  left : (test : AddressRange → Bool) → Tests (goal.F-post g l.is_wanted) test
      → Left 0 (wanted_bytes test (functions_at l.s)) l.initial.list l.at (left_bytes test l.s l.p) l.list;
}

abbrev pub decreases-loop-field : goal.decreases-loop-field
decreases-loop-field g l = length l.s - l.p
