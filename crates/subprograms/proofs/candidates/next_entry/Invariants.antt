-- `candidates::next_entry` meets its contract. The loop's invariant: the entries from here on are those from place p on.
use Prim.Native.Nat.{◌-◌}
use lib.ListN.{length}
use Rattle.subprograms.proofs.candidates.NextEntryLaws.{Seeking}
use Rattle.subprograms.proofs.candidates.next_entry.Given as goal

abbrev pub invariant-loop-field : goal.invariant-loop-field
invariant-loop-field l = Seeking l.s l.p l.at

abbrev pub decreases-loop-field : goal.decreases-loop-field
decreases-loop-field l = length l.s - l.at
