-- `front::lie_below` says of each row at the front that it lies below the range.
use Rattle.std.proofs.Common.{◌≡◌, refl, ℕ, ◌+◌, ◌∙◌, arith, rules, tests, subst}
use Rattle.std.proofs.lemmas.Iterator.{cases_from_all, YieldsList-from_range, serves_from_Range}
use Rattle.std.proofs.lemmas.List.FromFn.{get_or-range_with_len, length-range_with_len}
use Rattle.line_answers.proofs.front.FrontLaws.{Below, all_below}
use Rattle.line_answers.proofs.front.lie_below.Goals as goal

from_zero : (i : ℕ) → 0 + i ≡ i
from_zero i = omega arith

pub all-requires : goal.all-requires
all-requires c = record { can = tt; finite = tt; callable = serves_from_Range (λ x q k. search (rules, tests)) (λ x low high. search (rules, arith)) }

pub returns : goal.returns
returns c =
    let A = cases_from_all _ _ _ (λ i. Below c.args.work.now c.args.l c.args.range i) (λ i. Unit {0}) c.all.ensures.ran
    (YieldsList-from_range 0 c.args.most c.args.most refl (omega arith))
    (λ x q k. (search rules, record { start = search (rules, tests); end = search (rules, tests) })) (λ x q k. tt) in
    λ e.
    let all = rw e at A in
    all_below _ _ _ c.args.most c.requires.in_table (λ i h. subst (λ k. Below c.args.work.now c.args.l c.args.range k) (get_or-range_with_len 0 c.args.most i 0 h ∙ from_zero i)
    (all i 0 (omega arith) (rw (length-range_with_len 0 c.args.most) h)))
