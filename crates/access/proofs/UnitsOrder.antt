-- The units of an accepted sheet: how many they are, and that an offset lies in one of them at most, which is the unit of the entry there.
use mathlib.Core.Path.{◌≡◌, refl, ◌∙◌}
use mathlib.Core.Bool.{Bool, true, false, cond}
use mathlib.Core.Logic.{⊎_elim}
use mathlib.Core.List.{List, ◌∷◌, map}
use mathlib.Core.Option.{Option, some}
use Prim.Native.Nat.{ℕ, ◌+◌, ◌≤◌, ◌<◌}
use native.Mathlib.Omega.{arith}
use lib.Dec.{eqb, ltb}
use lib.ListN.{length, drop}
use borrow.Author.Tests.{eqb-true, eqb-false, ltb-true}
use Rattle.tlv.specs.declared.grammar.Context.{Context}
use Rattle.tlv.specs.Limits.{field_limit, unit_limit}
use Rattle.tlv.specs.Outcome.{done}
use Rattle.tlv.specs.Lists.{Any, first}
use Rattle.tlv.specs.Fields.{Field, FieldList, end, cut, more, fields, whole_fields, payloads}
use Rattle.tlv.specs.Grammar.{start, shaped, payload_limited, limited, next, check_from, check_input}
use Rattle.tlv.specs.Checked.{Accepts, field_in}
use Rattle.tlv.proofs.TestLaws.{and_right}
use Rattle.tlv.proofs.CursorLaws.{row-ind}
use Rattle.tlv.proofs.AcceptedGroups.{passed-both}
use Rattle.access.specs.Places.{unit_here, behind, unit_places, IndexedEntry, entry_index, UnitOf}
use Rattle.access.specs.Index.{lookup}
use Rattle.access.specs.Units.{indexed_unit, within, containing}
use Rattle.access.proofs.IndexOrder.{unit-behind, after-unit, after-entry, after-other}
use Rattle.access.proofs.IndexModel.{either, here-unit, places-unit, places-other}
use Rattle.access.proofs.IndexPlaces.{found-placed, found-offset}
use Rattle.access.proofs.ContainingLaws.{in_unit, behind-unit, containing-places}

-- ---- how many

-- as many as fields 10
pub unit_places-length : (p : ℕ) (fs : FieldList) → length (unit_places p fs) ≡ length (payloads 0x10 (whole_fields fs))
unfolding unit_places whole_fields payloads
unit_places-length p end = refl
unit_places-length p cut = refl
unit_places-length p (more f fs) = go (eqb f.tag 0x10) (unit_places-length (behind p f) fs)
  where
    go : (b : Bool) → length (unit_places (behind p f) fs) ≡ length (payloads 0x10 (whole_fields fs))
        → length (cond b (p ∷ unit_places (behind p f) fs) (unit_places (behind p f) fs)) ≡ length (cond b (f.payload ∷ payloads 0x10 (whole_fields fs)) (payloads 0x10 (whole_fields fs)))
    go true e = rw e
    go false e = e

-- what a field adds to the units
module _ (c : Context) (f : Field) where
  one_unit : f.tag ≡ 0x10 → (next c f).units ≡ c.units + 1
  unfolding next
  one_unit is = rw is

  no-unit : eqb f.tag 0x10 ≡ false → (next c f).units ≡ c.units
  unfolding next
  no-unit h = either (eqb f.tag 0x17) (λ e. rw (h, e)) (λ e. rw (h, e))

  unit-limited : limited c f ≡ true → f.tag ≡ 0x10 → c.units < unit_limit
  unfolding limited payload_limited
  unit-limited li is = ltb-true c.units unit_limit (rw is at (and_right (ltb c.count field_limit) (payload_limited c f.tag f.payload) li))

few-from : (c : Context) (fs : FieldList) (m p : ℕ) → check_from c fs ≡ done m → c.units ≤ unit_limit → c.units + length (unit_places p fs) ≤ unit_limit
unfolding check_from unit_places
few-from c end m p e h = omega arith
few-from c cut m p e h = omega arith
few-from c (more f fs) m p e h =
    let both = passed-both (shaped c f) (limited c f) (check_from (next c f) fs) m e in
    either (eqb f.tag 0x10)
    (λ a.
    let is = eqb-true f.tag 0x10 a in
    let l = unit-limited c f both.1 is in
    let n = one_unit c f is in
    let rest = few-from (next c f) fs m (behind p f) both.2 (omega arith) in
    rw a (omega arith))
    (λ a.
    let n = no-unit c f a in
    let rest = few-from (next c f) fs m (behind p f) both.2 (omega arith) in
    rw a (omega arith))

-- ---- an offset lies in one unit at most

module _ (s : List ℕ) (x q : ℕ) where
  -- the first unit that has x in it
  abbrev holder : List ℕ → Option ℕ
  holder qs = first (λ q. within x (unit_here s q).offset (unit_here s q).length) qs

  -- fields that pass after c, with the unit at q among them: it begins where c ends or later, and it is the first that has x in it
  abbrev Only : ℕ → FieldList → Type 0
  Only p fs = (c : Context) (m : ℕ) → check_from c fs ≡ done m → Any (λ y. y ≡ q) (unit_places p fs) → (c.end ≤ (unit_here s q).offset) × (holder (unit_places p fs) ≡ some q)

  module _ (low : (unit_here s q).offset ≤ x) (high : x < (unit_here s q).offset + (unit_here s q).length) where
    only-turn : (p past : ℕ) (f : Field) (fs : FieldList) → behind p f ≡ past → fields (drop p s) ≡ more f fs → Only past fs → Only p (more f fs)
    unfolding check_from first
    only-turn p past f fs to at ih c m e any =
        let both = passed-both (shaped c f) (limited c f) (check_from (next c f) fs) m e in
        either (eqb f.tag 0x10)
        (λ a.
        let is = eqb-true f.tag 0x10 a in
        let n = after-unit c f is in
        let l = unit-behind c f both.0 is in
        let here = here-unit s p f fs at in
        ⊎_elim
        (λ same.
        let k : c.end ≤ (unit_here s p).offset = omega arith in
        (rw same at k, rw (places-unit p f fs past to is, same, in_unit x (unit_here s q).offset (unit_here s q).length low (omega arith))))
        (λ rest.
        let t = ih (next c f) m both.2 rest in (
          omega arith,
          rw (places-unit p f fs past to is, behind-unit x (unit_here s p).offset (unit_here s p).length (omega arith) (omega arith)) t.1,
        ))
        (rw (places-unit p f fs past to is) at any))
        (λ a.
        let no = eqb-false f.tag 0x10 a in
        let rest = rw (places-other p f fs past to no) at any in
        let t = ih (next c f) m both.2 rest in
        let same_end : (next c f).end ≡ c.end =
        either (eqb f.tag 0x17) (λ b. (after-entry c f (eqb-true f.tag 0x17 b)).0) (λ b. (after-other c f no (eqb-false f.tag 0x17 b)).0) in
        (omega arith, rw (places-other p f fs past to no) t.1))

    only : (p : ℕ) → Only p (fields (drop p s))
    unfolding unit_places
    only p =
        row-ind s (λ (p : ℕ) (fs : FieldList). fields (drop p s) ≡ fs → Only p fs) (λ p at c m e any. absurd any) (λ p at c m e any. absurd any)
        (λ p t start n past is to most long ih at. only-turn p past (field_in s t start n) (fields (drop past s)) (omega arith) at (ih refl))
        p refl

module _ (s : List ℕ) (n : ℕ) (accepted : Accepts s n) (x : ℕ) where
  -- a unit that has x in it is the one that is found
  pub only-containing : (q : ℕ) → UnitOf s q → (unit_here s q).offset ≤ x → x < (unit_here s q).offset + (unit_here s q).length
      → containing x (map (indexed_unit s) (unit_places 0 (fields s))) ≡ some q
  unfolding check_input
  only-containing q any low high =
      containing-places s x (unit_places 0 (fields s)) ∙ (only s x q low high 0 (start accepted.program) n accepted.passes any).1

  -- the unit of the entry at x is the one that is found
  pub entry-containing : (e : IndexedEntry) → lookup x (entry_index 0 0 0 (fields s)) ≡ some e
      → containing x (map (indexed_unit s) (unit_places 0 (fields s))) ≡ some e.unit
  entry-containing e found =
      let placed = found-placed s n accepted x e found in
      let at = found-offset s n accepted x e found in
      only-containing e.unit placed.unit (omega arith) (omega arith)
