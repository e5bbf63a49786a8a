-- A refusal of the walk below a subprogram is for an entry there, and for one of the four reasons.
use mathlib.Core.Path.{◌≡◌, sym, subst}
use mathlib.Core.Logic.{◌⊎◌, inl, inr}
use mathlib.Core.Bool.{true}
use mathlib.Core.List.{[], map}
use Prim.Native.Nat.{ℕ, ◌<◌}
use lib.ListN.{length}
use Rattle.tlv.specs.Outcome.{refused}
use Rattle.tlv.specs.Lists.{Any}
use Rattle.tlv.specs.Accepted.{UnitAccepted}
use Rattle.imports.specs.Tree.{DetailContext, extract_subprogram_details}
use Rattle.imports.specs.Agree.{tree_entries, Below}
use Rattle.imports.specs.Demand.{unit_entry, entries_below, Blamed, by_name, by-ranges, by-depth, by_site}
use Rattle.imports.proofs.StackMachine.{run}
use Rattle.imports.proofs.WalkPlaces.{below-any}
use Rattle.imports.proofs.WalkSteps.{Fault, bad_name, bad-ranges, bad_site, tree_of}
use Rattle.imports.proofs.WalkMachine.{Walk, machine-answer, walk-below}

blame : (c : DetailContext) (s i : ℕ) {n : ℕ} → Below (tree_entries c.dwarf c.unit) s i → Fault c (unit_entry c.unit i) n → Blamed c s n
blame c s i b (bad_name t h) = by_name {i = i} (record { under = b; inlined = t }) h
blame c s i b (bad-ranges t h k) = by-ranges {i = i} (record { under = b; inlined = t }) h k
blame c s i b (bad_site a t h) = by_site {i = i} (record { under = b; asked = a; site = t }) h

pub walk-refuses : (c : DetailContext) (s : ℕ) → c.include_inlines ≡ true → UnitAccepted c.unit → s < length c.unit.entries →
    (n : ℕ) → extract_subprogram_details c (entries_below c.unit s) ≡ refused n → Blamed c s n
walk-refuses c s on a l n h = go (subst (Walk c (entries_below c.unit s) [] []) h (walk-below c s a l on))
  where
    go : ((n ≡ 14) × (run c.function_range [] (map (tree_of c) (entries_below c.unit s)) ≡ refused 14)) ⊎ Any (λ e. Fault c e n) (entries_below c.unit s) → Blamed c s n
    go (inl t) = subst (Blamed c s) (sym t.0) (by-depth (machine-answer c s a l (refused 14) t.1).1)
    go (inr f) = let t = below-any c.dwarf c.unit s l a (λ e. Fault c e n) f in blame c s t.0 t.1 t.2
