-- `form::fields_formed` meets its contract. The loop's invariant: the form of all is the form of what is left, after the fields so far.
use mathlib.Core.Path.{◌≡◌}
use mathlib.Core.Bool.{Bool}
use Prim.Native.Nat.{ℕ, ◌-◌}
use lib.ListN.{length, drop}
use Rattle.tlv.specs.Fields.{fields}
use Rattle.buffers.specs.Reader.{records_form}
use Rattle.lookup.specs.Walk.{until, TestsTag}
use Rattle.lookup.proofs.form.fields_formed.Given as goal

abbrev pub invariant-loop-p : goal.invariant-loop-p
invariant-loop-p g l = (ends : ℕ → Bool) → TestsTag (goal.F-post g l.ends) ends
    → records_form l.after 0 (until ends (fields (drop l.from l.s))) ≡ records_form l.previous l.depth (until ends (fields (drop l.p l.s)))

abbrev pub decreases-loop-p : goal.decreases-loop-p
decreases-loop-p g l = length l.s - l.p
