-- `grammar::check_input` meets its contract. The loop's invariant: the check of all is the check of what is left, in the context so far.
use mathlib.Core.Path.{◌≡◌}
use Prim.Native.Nat.{◌≤◌, ◌-◌}
use lib.ListN.{length, drop}
use Rattle.tlv.specs.Fields.{fields}
use Rattle.tlv.specs.Grammar.{check_from, check_input}
use Rattle.tlv.proofs.grammar.check_input.Given as goal

abbrev pub invariant-loop-p : goal.invariant-loop-p
invariant-loop-p l = (l.p ≤ length l.s) × (check_input l.program l.s ≡ check_from l.c (fields (drop l.p l.s)))

abbrev pub decreases-loop-p : goal.decreases-loop-p
decreases-loop-p l = length l.s - l.p
