-- `store::StoredFiles::intern_at` meets its contract.
use mathlib.Core.Path.{◌≡◌}
use borrow.Author.Rules.{rules}
use Rattle.files.proofs.InternLaws.{numbered, numbered-is, at-written}
use Rattle.files.proofs.store.StoredFiles.intern_at.Goals as goal

pub returns : goal.returns
returns c = let number : c.map.result ≡ numbered c.in_ok-added.added = numbered-is _ (λ a n h. search rules) _ _ c.map.ensures.cases in
    at-written c.requires.map_in_bounds.0 c.put_index.auto.work c.in_ok-added.ensures (rw number at c.put_index.ensures)
