-- `normalize::drop_repeats` meets its contract: what is left so far and what the rest leaves are what the whole leaves.
use Rattle.std.specs.Prelude.{ℕ, ◌<◌, Bool, List}
use Rattle.rows.specs.Repeats.{TestsBy}
use Rattle.rows.proofs.normalize.DropLaws.{Dropping}
use Rattle.rows.proofs.normalize.drop_repeats.Given as goal

abbrev pub invariant-loop-i : goal.invariant-loop-i
invariant-loop-i g l = (l.last < l.i) × ((equal : List ℕ → List ℕ → Bool) → TestsBy l.size equal (goal.F-post g l.repeats) → Dropping (λ b. b) l.size equal l.initial.work l.work l.rows.base l.rows.count l.last l.i)
