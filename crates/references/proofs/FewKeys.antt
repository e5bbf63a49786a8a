-- How many targets a search can follow: one for each attribute of the main sheet, two for each of the supplementary one.
use mathlib.Core.List.{List, [], ◌∷◌, map}
use Prim.Native.Nat.{ℕ, ◌+◌, ◌*◌, ◌≤◌}
use native.Mathlib.Nat.{mul-add, mul-le-mul_left}
use native.Mathlib.Omega.{arith}
use lib.Dec.{eqb}
use lib.ListN.{length, length-append, length-map}
use Rattle.tlv.specs.Fields.{fields, whole_fields, Group, grouped, payloads, count_of}
use Rattle.tlv.specs.Model.{CompilationUnit, Attribute, attribute_of, entry_of, unit_of, units}
use Rattle.access.proofs.IndexModel.{either}
use Rattle.files.proofs.FewLaws.{amount, amount_in, grouped-few}
use Rattle.references.specs.Search.{DieKey}
use Rattle.references.specs.Keys.{main_keys, supplementary_keys, entry_keys, unit_keys, possible_keys}

main-few : (u : CompilationUnit) (xs : List Attribute) → length (main_keys u xs) ≤ 1 * length xs
unfolding main_keys
main-few u [] = omega arith
main-few u (a ∷ xs) =
    let rest = main-few u xs in
    either (eqb a.kind 4) (λ d. rw d (omega arith)) (λ d.
    either (eqb a.kind 5) (λ e. rw (d, e) (omega arith)) (λ e.
    either (eqb a.kind 6) (λ f. rw (d, e, f) (omega arith)) (λ f. rw (d, e, f) (omega arith))))

supplementary-few : (u : CompilationUnit) (xs : List Attribute) → length (supplementary_keys u xs) ≤ 2 * length xs
unfolding supplementary_keys
supplementary-few u [] = omega arith
supplementary-few u (a ∷ xs) =
    let rest = supplementary-few u xs in
    either (eqb a.kind 4) (λ d. rw d (omega arith)) (λ d.
    either (eqb a.kind 5) (λ e. rw (d, e) (omega arith)) (λ e. rw (d, e) (omega arith)))

-- a reader that takes k keys of an attribute at most takes no more than k for each field 18
module _ (f : CompilationUnit → List Attribute → List DieKey) (k : ℕ) (each : (u : CompilationUnit) (xs : List Attribute) → length (f u xs) ≤ k * length xs) where
  entries-few : (u : CompilationUnit) (gs : List Group) → length (entry_keys f u (map entry_of gs)) ≤ k * amount_in 0x18 gs
  unfolding entry_keys entry_of
  entries-few u [] = omega arith
  entries-few u (g ∷ gs) =
      let xs : List Attribute = map attribute_of (payloads 0x18 g.rest) in
      let one : length (f u xs) ≤ k * amount 0x18 g.rest = rw (length-map (payloads 0x18 g.rest) attribute_of) at (each u xs) in
      let rest = entries-few u gs in
      simp length-append (omega (arith, mul-add k (amount 0x18 g.rest) (amount_in 0x18 gs)))

  groups-few : (gs : List Group) → length (unit_keys f (map unit_of gs)) ≤ k * amount_in 0x18 gs
  unfolding unit_keys unit_of
  groups-few [] = omega arith
  groups-few (g ∷ gs) =
      let inner : List Group = (grouped 0x17 g.rest).groups in
      let few : amount_in 0x18 inner ≤ amount 0x18 g.rest = omega (arith, grouped-few 0x18 0x17 g.rest) in
      let one = entries-few (unit_of g) inner in
      let rest = groups-few gs in
      simp length-append (omega (arith, mul-le-mul_left k few, mul-add k (amount 0x18 g.rest) (amount_in 0x18 gs)))

  units-few : (s : List ℕ) → length (unit_keys f (units s)) ≤ k * count_of 0x18 s
  unfolding units
  units-few s =
      let gs : List Group = (grouped 0x10 (whole_fields (fields s))).groups in
      let few : amount_in 0x18 gs ≤ count_of 0x18 s = omega (arith, grouped-few 0x18 0x10 (whole_fields (fields s))) in
      omega (arith, groups-few gs, mul-le-mul_left k few)

-- the targets that a search can follow are no more than the fields 18 of the main sheet and twice those of the supplementary one
pub keys-few : (main supplementary : List ℕ) → length (possible_keys main supplementary) ≤ count_of 0x18 main + 2 * count_of 0x18 supplementary
unfolding possible_keys
keys-few main supplementary =
    simp length-append (omega (arith, units-few main_keys 1 main-few main, units-few supplementary_keys 2 supplementary-few supplementary))
