-- `lookin::by_pass` meets its contract: what `find` over the places says of each.
use mathlib.Core.List.{List}
use Rattle.std.proofs.Common.{rules, tests, arith, ℕ, ◌≤◌, ◌<◌}
use Rattle.std.specs.Prelude.{Option, Some, None, MatchOption}
use Rattle.std.proofs.lemmas.Iterator.{first_from_Range}
use Rattle.look_index.specs.Index.{extent_at, ExtentHolds}
use Rattle.look_index.specs.LookIn.{Scanned}
use Rattle.look_index.proofs.lookin.by_pass.Goals as goal

first-held : (w : List ℕ) (n a : ℕ) (r : Option ℕ)
    → MatchOption r ((k : ℕ) → 0 ≤ k → k < n → ¬ ExtentHolds (extent_at w k) a)
    (λ i. (0 ≤ i) × (i < n) × ExtentHolds (extent_at w i) a × ((k : ℕ) → 0 ≤ k → k < i → ¬ ExtentHolds (extent_at w k) a))
    → Scanned w n a r
first-held w n a None f = λ j h. f j (omega arith) h
first-held w n a (Some k) f = (f.1, f.2, λ j h. f.3 j (omega arith) h)

pub returns : goal.returns
returns c =
    let w = c.args.extents.index.now in
    let a = c.args.address in
    let first = first_from_Range _ _ _ _ (λ i. ExtentHolds (extent_at w i) a) (λ i. ¬ ExtentHolds (extent_at w i) a) c.find.ensures.ran
    (λ x q k. search (rules, tests)) (λ x q k. (search rules, λ h. search (rules, tests))) in
    record { is = first-held w c.args.extents.count a _ first }
