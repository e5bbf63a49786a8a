-- Where an offset leads in a sheet whose units and entries stand in tables: what the answers of the two searches say of it.
use mathlib.Core.Path.{◌≡◌, refl, sym, ap, ◌∙◌}
use mathlib.Core.Bool.{Bool, true}
use mathlib.Core.Logic.{inl, inr}
use mathlib.Core.List.{List, [], ◌∷◌, map}
use mathlib.Core.Option.{Option, none, some, none-ne-some}
use Prim.Native.Nat.{ℕ, suc, ◌+◌, ◌-◌, ◌≤◌}
use native.Mathlib.Omega.{arith}
use lib.Dec.{eqb, leb, ltb}
use borrow.Author.Tests.{eq-eqb, ne_eqb, leb-true}
use Rattle.tlv.specs.Lists.{Any, first, map_option}
use Rattle.tlv.specs.Fields.{fields}
use Rattle.tlv.specs.Checked.{Accepts}
use Rattle.tlv.specs.Model.{units}
use Rattle.tlv.specs.declared.refusal.Refusal.{Refusal}
use Rattle.tlv.proofs.TestLaws.{by_test, and_left}
use Rattle.tlv.proofs.AnswerLaws.{ok-some, err-none}
use Rattle.buffers.specs.Table.{records}
use Rattle.std.specs.Prelude.{Some, None, Ok, Err, ok_or}
use Rattle.std.specs.declared.option.Option.{Option as Given}
use Rattle.access.specs.declared.index.EntryPlace.{EntryPlace}
use Rattle.access.specs.Places.{unit_here, entry_here, unit_places, IndexedEntry, entry_index, UnitOf}
use Rattle.access.specs.Access.{place_of}
use Rattle.access.specs.Index.{indexed_of, RisingFrom, Rising, lookup, found_of, entry_in}
use Rattle.access.specs.Units.{indexed_unit, unit_of24, within, containing}
use Rattle.access.proofs.IndexOrder.{index-rising}
use Rattle.access.proofs.IndexLaws.{table-rising}
use Rattle.access.proofs.IndexModel.{index-finds}
use Rattle.access.proofs.IndexPlaces.{found-placed, found-entry, answer_at, answer-missing}
use Rattle.access.proofs.ContainingLaws.{containing-places, units-containing}
use Rattle.access.proofs.UnitsOrder.{entry-containing}
use Rattle.references.specs.declared.tables.Index.{Index}
use Rattle.references.specs.Search.{or_no_entry, entry_at, unit_containing}
use Rattle.references.specs.Tables.{IndexIn, EntryKnown, Leads, LeadsTo, LeadsIn}

-- ---- the first that passes a test

module _ {A : Type 0} (t : A → Bool) (a : A) where
  -- is one of the list
  pub first_any : (xs : List A) → first t xs ≡ some a → Any (λ x. x ≡ a) xs
  unfolding first
  first_any [] e = absurd (none-ne-some a e)
  first_any (x ∷ xs) e =
      by_test (λ (o : Option A). o ≡ some a → Any (λ x. x ≡ a) (x ∷ xs)) (t x) {x = some x} {y = first t xs} (λ y same. inl (cc)) (λ n found. inr (first_any xs found)) e

  -- and passes it
  pub first_passes : (xs : List A) → first t xs ≡ some a → t a ≡ true
  unfolding first
  first_passes [] e = absurd (none-ne-some a e)
  first_passes (x ∷ xs) e =
      by_test (λ (o : Option A). o ≡ some a → t a ≡ true) (t x) {x = some x} {y = first t xs} (λ y same. let is : x ≡ a = cc in rw is at y) (λ n found. first_passes xs found) e

-- ---- the tables

pub index-table-rising : {s w : List ℕ} {x : Index} → IndexIn s w x → Rising (records indexed_of 16 w x.entries.base x.entries.count)
index-table-rising {s} {w} {x} I = table-rising s w x.entries.base x.entries.count I.number I.accepted I.entries

-- the places of a unit's table are those of the sheet
module _ (s : List ℕ) (o q : ℕ) (found : containing o (map (indexed_unit s) (unit_places 0 (fields s))) ≡ some q) where
  holds : first (λ q. within o (unit_here s q).offset (unit_here s q).length) (unit_places 0 (fields s)) ≡ some q
  holds = sym (containing-places s o (unit_places 0 (fields s))) ∙ found

  unit-listed : UnitOf s q
  unit-listed = first_any (λ q. within o (unit_here s q).offset (unit_here s q).length) q (unit_places 0 (fields s)) holds

  unit-low : (unit_here s q).offset ≤ o
  unit-low =
      leb-true (unit_here s q).offset o
      (and_left (leb (unit_here s q).offset o) (ltb o ((unit_here s q).offset + (unit_here s q).length))
      (first_passes (λ q. within o (unit_here s q).offset (unit_here s q).length) q (unit_places 0 (fields s)) holds))

  unit-is : unit_containing (units s) o ≡ some (unit_here s q)
  unfolding unit_containing map_option
  unit-is = units-containing s o ∙ ap (map_option (unit_here s)) found

unit-none : (s : List ℕ) (o : ℕ) → containing o (map (indexed_unit s) (unit_places 0 (fields s))) ≡ none → unit_containing (units s) o ≡ none
unfolding unit_containing map_option
unit-none s o out = units-containing s o ∙ ap (map_option (unit_here s)) out

-- an entry that the index finds is known
entry_known : (s : List ℕ) (x : ℕ) (e : IndexedEntry) → lookup x (entry_index 0 0 0 (fields s)) ≡ some e → EntryKnown s e.unit e.place
unfolding lookup
entry_known s x e found = record { entry = e; listed = first_any (λ d. eqb d.offset x) e (entry_index 0 0 0 (fields s)) found; place = refl; unit = refl }

-- ---- the answers

module _ {s w : List ℕ} {x : Index} (I : IndexIn s w x) (o : ℕ) where
  -- the unit
  module _ (r : Given ℕ) (e : place_of r ≡ containing o (records unit_of24 24 w x.units.base x.units.count)) where
    place_is : place_of r ≡ containing o (map (indexed_unit s) (unit_places 0 (fields s)))
    place_is = e ∙ ap (containing o) I.units

    pub leads_to_outside : r ≡ None → LeadsTo s o (Ok None)
    leads_to_outside is = record { is = unit-none s o (sym (rw is at place_is)) }

    pub leads_outside : r ≡ None → Leads s o (Ok None)
    leads_outside is = record { is = (leads_to_outside is).is }

    -- no entry of the unit starts there
    pub leads_no-entry : (q : ℕ) → r ≡ Some q → found_of o None ≡ lookup o (records indexed_of 16 w x.entries.base x.entries.count) → LeadsTo s o (Err (record { unit = q }))
    unfolding entry_at entry_in
    leads_no-entry q is answer =
        let found = sym (rw is at place_is) in
        let low = unit-low s o q found in
        let sum : (unit_here s q).offset + (o - (unit_here s q).offset) ≡ o = omega arith in
        let gone = answer-missing s w x.entries.base x.entries.count o I.entries answer in
        record {
          is = (
            unit-is s o q found,
            ap or_no_entry (index-finds s I.number q (o - (unit_here s q).offset) I.accepted (unit-listed s o q found)) ∙ rw (sum, gone),
          );
        }

    -- as `ok_or` has it, for an answer that names no unit
    pub leads-missing : (q : ℕ) → r ≡ Some q → (f : Given EntryPlace) → found_of o f ≡ lookup o (records indexed_of 16 w x.entries.base x.entries.count)
        → {e : Refusal} → Err e ≡ ok_or f Refusal.NoEntry → Leads s o (Err e)
    leads-missing q is f answer made =
        let none = err-none f made in
        let here = (leads_no-entry q is (rw none.0 at answer)).is in
        rw none.1 (record { is = (refl, record { unit = q; containing = here.0; missing = here.1 }) })

  -- no entry of the unit at q starts at its offset own
  module _ (q own : ℕ) (listed : UnitOf s q) (sum : o ≡ (unit_here s q).offset + own) where
    own-entry : entry_at (unit_here s q) own ≡ or_no_entry (entry_in s q (lookup o (entry_index 0 0 0 (fields s))))
    unfolding entry_at
    own-entry = ap or_no_entry (index-finds s I.number q own I.accepted listed) ∙ rw sum

    pub leads_in-missing : found_of o None ≡ lookup o (records indexed_of 16 w x.entries.base x.entries.count) → LeadsIn s q own None
    unfolding entry_in
    leads_in-missing answer = record { is = own-entry ∙ rw (answer-missing s w x.entries.base x.entries.count o I.entries answer) }

  -- the entry
  module _ (f : EntryPlace) (answer : found_of o (Some f) ≡ lookup o (records indexed_of 16 w x.entries.base x.entries.count)) where
    found : lookup o (entry_index 0 0 0 (fields s)) ≡ some (record { offset = o; place = f.place; unit = f.unit })
    found = answer_at s w x.entries.base x.entries.count o I.entries f answer

    pub leads_to_at : LeadsTo s o (Ok (Some f))
    unfolding entry_at
    leads_to_at =
        let e : IndexedEntry = record { offset = o; place = f.place; unit = f.unit } in
        let placed = found-placed s I.number I.accepted o e found in
        let sum = placed.offset in
        let own : o - (unit_here s f.unit).offset ≡ (entry_here s f.place).offset = omega arith in
        record {
          is = (
            unit-is s o f.unit (entry-containing s I.number I.accepted o e found),
            rw own (ap or_no_entry (found-entry s I.number I.accepted o e found)),
            entry_known s o e found,
          );
        }

    pub leads_at : Leads s o (Ok (Some f))
    leads_at = record { is = leads_to_at.is }

    -- in the unit at q, which o is an offset of by its own offset `own`
    module _ (q own : ℕ) (listed : UnitOf s q) (sum : o ≡ (unit_here s q).offset + own) where
      pub leads_in-other : (f.unit ≡ q → ⊥) → LeadsIn s q own None
      unfolding entry_in
      leads_in-other other = record { is = own-entry q own listed sum ∙ rw (found, ne_eqb f.unit q other) }

      pub leads_in_at : f.unit ≡ q → LeadsIn s q own (Some f.place)
      unfolding entry_in
      leads_in_at same = record {
        is = (own-entry q own listed sum ∙ rw (found, eq-eqb f.unit q same), rw same at (entry_known s o (record { offset = o; place = f.place; unit = f.unit }) found));
      }

  -- as `ok_or` has it
  pub leads-found : (f : Given EntryPlace) {v : EntryPlace} → found_of o f ≡ lookup o (records indexed_of 16 w x.entries.base x.entries.count) → Ok v ≡ ok_or f Refusal.NoEntry
      → Leads s o (Ok (Some v))
  leads-found f {v} answer made = leads_at v (rw (ok-some f _ made) at answer)

-- ---- the entry of a unit that the index knows

-- strictly ascending offsets: each entry is the first of its offset
rising-above : (k : ℕ) (es : List IndexedEntry) (e : IndexedEntry) → RisingFrom k es → Any (λ d. d ≡ e) es → k ≤ e.offset
unfolding RisingFrom
rising-above k [] e h x'' = elim x'' [ ]
rising-above k (d ∷ es) e h (inl same) = rw same at h.0
rising-above k (d ∷ es) e h (inr later) = let l = rising-above (suc d.offset) es e h.1 later in let m = h.0 in omega arith

pub rising-lookup : (k : ℕ) (es : List IndexedEntry) (e : IndexedEntry) → RisingFrom k es → Any (λ d. d ≡ e) es → lookup e.offset es ≡ some e
unfolding RisingFrom lookup first
rising-lookup k [] e h x'' = elim x'' [ ]
rising-lookup k (d ∷ es) e h (inl same) = rw (same, eq-eqb e.offset e.offset refl)
rising-lookup k (d ∷ es) e h (inr later) =
    let l = rising-above (suc d.offset) es e h.1 later in
    rw (ne_eqb d.offset e.offset (λ is. omega arith)) (rising-lookup (suc d.offset) es e h.1 later)

module _ {s : List ℕ} {q p : ℕ} (n : ℕ) (accepted : Accepts s n) (known : EntryKnown s q p) where
  known-found : lookup known.entry.offset (entry_index 0 0 0 (fields s)) ≡ some known.entry
  known-found = rising-lookup 0 (entry_index 0 0 0 (fields s)) known.entry (index-rising s n accepted) known.listed

  -- its unit is one of the sheet
  pub known-unit : UnitOf s q
  known-unit = rw known.unit at (found-placed s n accepted known.entry.offset known.entry known-found).unit

  -- and has it
  pub known-entry : Any (λ e. e ≡ entry_here s p) (unit_here s q).entries
  known-entry =
      first_any (λ d. eqb d.offset (entry_here s p).offset) (entry_here s p) (unit_here s q).entries
      (rw (known.place, known.unit) at (found-entry s n accepted known.entry.offset known.entry known-found))
