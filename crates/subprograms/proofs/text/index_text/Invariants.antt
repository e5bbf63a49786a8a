-- `text::index_text` meets its contract. The loop's invariant: what is written and the ranges of the fields that are left are the unit's.
use Prim.Native.Nat.{◌-◌}
use lib.ListN.{length}
use Rattle.subprograms.proofs.text.TextLaws.{TextListing}
use Rattle.subprograms.proofs.text.index_text.Given as goal

abbrev pub invariant-loop-field : goal.invariant-loop-field
invariant-loop-field l = TextListing l.main l.place l.initial.work l.work l.base l.p l.count

abbrev pub decreases-loop-field : goal.decreases-loop-field
decreases-loop-field l = length l.main - l.p
