-- `search::lower_row` meets its contract: the turn that the search finds is the number of leading rows.
use borrow.Author.Rules.{rules}
use Rattle.rows.proofs.LeadingLaws.{leading-turn}
use Rattle.rows.proofs.search.lower_row.Goals as goal

pub returns : goal.returns
returns c = leading-turn _ _ _ _ c.requires.sorted _ c.lower_bound.ensures.within (λ h. search (rules, c.lower_bound.ensures.passed h)) (λ h. search (rules, c.lower_bound.ensures.next h))
