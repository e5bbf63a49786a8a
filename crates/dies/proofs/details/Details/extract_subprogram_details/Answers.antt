-- `details::Details::extract_subprogram_details` meets its contract.
use mathlib.Core.Path.{◌≡◌, sym, ◌∙◌}
use mathlib.Core.Bool.{true, ◌||◌}
use native.Mathlib.Omega.{arith}
use Rattle.dies.proofs.details.ExtractLaws.{switched, extracts-off, extracts-none}
use Rattle.dies.proofs.details.Details.extract_subprogram_details.Goals.{else-has_entries-via-then-has_entries+else-self-2, then-self, else-self, else-has_entries-via-else-has_entries}
use Rattle.dies.proofs.details.Details.extract_subprogram_details.Goals as goal

pub returns-then-self-2 : goal.returns-then-self-2
returns-then-self-2 c = let on : (c.args.self.context.include_inlines || c.args.self.context.include_call_sites) ≡ true = elim c.if-self.branch [ then-self w ↦ rw w.if-self.true | else-self w ↦ rw w.if-self.false (sym w.value-is ∙ c.if-self-2.true) ] in switched _ on c.collect_descendants.ensures

pub returns : goal.returns
returns c = elim c.else-has_entries.branch [ else-has_entries-via-then-has_entries+else-self-2 w ↦ extracts-off (elim w.if-self.branch [ then-self x ↦ absurd (cc) | else-self x ↦ rw x.if-self.false (sym x.value-is ∙ w.if-self-2.false) ]) (omega arith) (omega arith) (omega arith) (omega arith) | else-has_entries-via-else-has_entries w ↦ extracts-none (c.has_entries.ensures w.if-has_entries.false) (omega arith) (omega arith) (omega arith) (omega arith) ]
