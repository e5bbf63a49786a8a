-- `extents::holds_apart` meets its contract: only the last range that starts at or below the address can hold it.
use borrow.Author.Rules.{rules}
use Rattle.symbols.proofs.SoughtLaws.{sought-none, sought-last}
use Rattle.symbols.proofs.extents.holds_apart.Goals as goal

pub returns-then-past-ne0 : goal.returns-then-past-ne0
returns-then-past-ne0 c =
    let t = c.lower_bound-past.ensures in
    sought-last _ _ _ c.requires _ _ t.within (λ h. let n = t.next h in search rules) _ c.at.ensures c.if-past-ne0.true
    (let p = t.passed (search rules) in search rules)

pub returns-else-past-ne0 : goal.returns-else-past-ne0
returns-else-past-ne0 c =
    let t = c.lower_bound-past.ensures in
    rw c.if-past-ne0.false (sought-none _ _ _ c.requires _ _ t.within (λ h. let n = t.next h in search rules) c.if-past-ne0.false)
