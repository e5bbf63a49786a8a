-- `extents::is_held_with` meets its contract.
use mathlib.Core.Path.{sym, ◌∙◌}
use mathlib.Core.Bool.{true≢false}
use Rattle.symbols.proofs.SoughtLaws.{in-first, in_rest}
use Rattle.symbols.proofs.ExtentLaws.{by_first, by-second}
use Rattle.symbols.proofs.extents.is_held_with.Goals.{then-holds_apart, else-holds_apart}
use Rattle.symbols.proofs.extents.is_held_with.Goals as goal

pub returns-then-holds_apart-2 : goal.returns-then-holds_apart-2
returns-then-holds_apart-2 c =
    let k = rw c.in-Some.is at c.requires.known in
    rw c.if-holds_apart-2.true (elim c.if-holds_apart.branch [
      | then-holds_apart w ↦ by_first k _ _ (rw (c.new.ensures.based, c.new.ensures.counted) at c.holds_apart.ensures) w.if-holds_apart.true
      | else-holds_apart w ↦
          by-second k _ _ (rw (c.new.ensures.based, c.new.ensures.counted) at c.holds_apart.ensures) _ w.if-holds_apart.false
          (in-first _ _ _ _ _ _ k.is.lying.some (rw (c.new-2.ensures.based, c.new-2.ensures.counted) at w.holds_apart-else-holds_apart.ensures) (sym w.value-is ∙ c.if-holds_apart-2.true))
    ])

pub returns-else-holds_apart-2 : goal.returns-else-holds_apart-2
returns-else-holds_apart-2 c =
    let k = rw c.in-Some.is at c.requires.known in
    elim c.if-holds_apart.branch [
      | then-holds_apart w ↦ absurd (true≢false (sym w.if-holds_apart.true ∙ sym w.value-is ∙ c.if-holds_apart-2.false))
      | else-holds_apart w ↦
          by-second k _ _ (rw (c.new.ensures.based, c.new.ensures.counted) at c.holds_apart.ensures) _ w.if-holds_apart.false
          (in_rest _ _ _ _ _ _ k.is.lying.some (rw (c.new-2.ensures.based, c.new-2.ensures.counted) at w.holds_apart-else-holds_apart.ensures) _ (sym w.value-is ∙ c.if-holds_apart-2.false) (rw (c.new-3.ensures.based, c.new-3.ensures.counted) at c.holds.ensures))
    ]
