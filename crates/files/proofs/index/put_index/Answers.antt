-- `index::put_index` meets its contract.
use borrow.Author.Rules.{rules}
use Rattle.files.proofs.index.IndexLaws.{put-index}
use Rattle.files.proofs.index.put_index.Goals as goal

pub returns : goal.returns
returns c = put-index _ (λ a n h. search rules) _ _ c.map.ensures.cases c.put_option.ensures
