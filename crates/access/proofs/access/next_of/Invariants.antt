-- `access::next_of` meets its contract. The loop's invariant: the payloads of the tag from here on are those from p on.
use Prim.Native.Nat.{◌-◌}
use lib.ListN.{length}
use Rattle.access.proofs.OwnLaws.{Looking}
use Rattle.access.proofs.access.next_of.Given as goal

abbrev pub invariant-loop-field : goal.invariant-loop-field
invariant-loop-field l = Looking l.s l.p l.tag l.at

abbrev pub decreases-loop-field : goal.decreases-loop-field
decreases-loop-field l = length l.s - l.at
