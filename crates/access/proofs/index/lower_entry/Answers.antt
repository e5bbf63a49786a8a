-- `index::lower_entry` meets its contract. The search turns at the number of lower offsets.
use borrow.Author.Rules.{rules}
use Rattle.access.proofs.index.FindLaws.{lower-turn}
use Rattle.access.proofs.index.lower_entry.Goals as goal

pub returns : goal.returns
returns c = lower-turn _ _ _ _ _ c.requires.rising c.lower_bound.ensures.within (λ h. search (rules, c.lower_bound.ensures.passed h)) (λ h. search (rules, c.lower_bound.ensures.next h))
