-- The ways that a reference leads: to an offset of the own unit, to an offset of the own section, and from the main sheet into the supplementary one.
use mathlib.Core.Path.{◌≡◌, refl, sym, ap, ◌∙◌}
use mathlib.Core.Bool.{Bool, true, false, cond, true≢false}
use mathlib.Core.List.{List, [], ◌∷◌}
use mathlib.Core.Option.{Option, none, some}
use Prim.Native.Nat.{ℕ, ◌+◌, ◌-◌, ◌^◌}
use native.Mathlib.Omega.{arith}
use lib.Dec.{eqb, ltb}
use lib.ListN.{length, length-map}
use denote.Enum.Bare.{sameb}
use Rattle.tlv.specs.declared.model.DebugSource.{DebugSource}
use Rattle.tlv.specs.contracts.model.DebugSource.{the_type}
use Rattle.tlv.specs.Outcome.{Outcome, refused, done, ◌>>=◌}
use Rattle.tlv.specs.Lists.{Any, exists}
use Rattle.tlv.specs.Fields.{fields}
use Rattle.tlv.specs.Model.{CompilationUnit, Attribute, units}
use Rattle.buffers.proofs.RecordLaws.{records-length}
use Rattle.access.specs.Places.{unit_here, entry_here, unit_places}
use Rattle.access.specs.Units.{indexed_unit, unit_of24}
use Rattle.access.proofs.IndexModel.{either}
use Rattle.access.proofs.UnitPlaceLaws.{units-places}
use Rattle.files.specs.Pieces.{source_in}
use Rattle.references.specs.declared.tables.Tables.{Tables}
use Rattle.std.specs.declared.option.Option.{Option as Given}
use Rattle.references.specs.declared.attributes.Reference.{Reference}
use Rattle.references.specs.declared.ways.EntryAt.{EntryAt}
use Rattle.std.specs.Prelude.{Some, None, Result, Ok, Err}
use Rattle.references.specs.declared.ways.Way.{Way}
use Rattle.tlv.specs.declared.refusal.Refusal.{Refusal}
use Rattle.tlv.specs.Refusals.{number_of}
use Rattle.references.specs.Search.{Dwarf, Place, Trail, DieKey, same_key, main_source, is_visited, visit_entry, attribute, absolute_entry_offset, entry_at, Followed, same_unit, followed_nothing, follow_unit, follow_absolute, follow_supplementary, follow}
use Rattle.references.specs.Tables.{EntryKnown, reference_of, LeadsIn}
use Rattle.references.specs.Keys.{keys_at, key_in, PossibleKey, keys_from}
use Rattle.references.specs.Names.{dwarf_of, search_source, place_at, Sourced, Stands, SearchIn, follow_unit_from, follow_from, Ways}
use Rattle.references.proofs.KeyLaws.{possible-main_section, possible-main-supplementary, possible-supplementary_section}
use Rattle.references.proofs.FollowLaws.{stands_unit}

-- the key of a source
pub key-source : (source : DebugSource) (o : ℕ) → record { source = search_source source; offset = o } ≡ key_in source o
key-source DebugSource.Main o = refl
key-source DebugSource.Supplementary o = refl

-- ways of one search are those of another that follows as it does
pub ways_as : {f g : Trail → Outcome Followed} {main supplementary w : List ℕ} {x : Tables} {n left : ℕ} (r : Result (Given Way) Refusal)
    → ((t : Trail) → f t ≡ g t) → Ways g main supplementary w x n left r → Ways f main supplementary w x n left r
ways_as (Ok None) e W = record { is = λ k. e _ ∙ W.is k }
ways_as (Err r) e W = record { is = λ k. e _ ∙ W.is k }
ways_as (Ok (Some (Way.Entry next key))) e W =
    let N = W.is in record { is = record { is = λ k. e _ ∙ N.is k; stands = N.stands; deeper = N.deeper; possible = N.possible; new = N.new } }
ways_as (Ok (Some (Way.Offset next))) e W = let N = W.is in record { is = record { is = λ k. e _ ∙ N.is k; aims = N.aims; deeper = N.deeper } }

-- ---- an offset of the own unit

-- how it is followed, where its key is k
abbrev unit_step : Place → ℕ → Trail → DieKey → Outcome Followed
unit_step p o t k =
    cond (exists (same_key k) t.visited) (followed_nothing t)
    (entry_at p.unit o >>= λ e. done (record { trail = visit_entry t k; target = same_unit (record { input = p.input; source = p.source; unit = p.unit; entry = e }) }))

-- the sum that fits
sum_is : (u : CompilationUnit) (o t : ℕ) → done t ≡ absolute_entry_offset u o → t ≡ u.offset + o
unfolding absolute_entry_offset
sum_is u o t e = go (ltb (u.offset + o) (2 ^ 64)) e
  where
    go : (b : Bool) → done t ≡ cond b (done (u.offset + o)) (refused 12) → t ≡ u.offset + o
    go true e = cc
    go false e = let z : ◌≡◌ {A = ℕ} 0 1 = cc in absurd (omega arith)

module _ {main supplementary w s : List ℕ} {x : Tables} {n : ℕ} {at : EntryAt} (o : ℕ) (S : SearchIn main supplementary w x n) (A : Stands main supplementary at)
    (is : s ≡ source_in main supplementary at.input) where
  -- what is asked on the way
  pub way-listed : Any (λ q. q ≡ at.entry.unit) (unit_places 0 (fields s))
  way-listed = rw is (stands_unit S A)

  pub way_overflow : (r : Refusal) → refused (number_of r) ≡ absolute_entry_offset (unit_here s at.entry.unit) o → Ways (follow_unit_from main supplementary at o) main supplementary w x n at.left (Err r)
  unfolding follow_unit_from follow_unit ◌>>=◌
  way_overflow r e = record { is = λ k. rw (← is, ← e) }

  module _ {target : ℕ} (e : done target ≡ absolute_entry_offset (unit_here s at.entry.unit) o) where
    there : absolute_entry_offset (unit_here (source_in main supplementary at.input) at.entry.unit) o ≡ done target
    there = rw is at (sym e)

    pub way_sum : target ≡ (unit_here s at.entry.unit).offset + o
    way_sum = sum_is (unit_here s at.entry.unit) o target e

    module _ (v : Bool) (seen : v ≡ exists (same_key (key_in at.source target)) (keys_at w (keys_from x) n)) where
      follows : (t : Trail) → follow_unit_from main supplementary at o t ≡ unit_step (place_at main supplementary at) o t (key_in at.source target)
      unfolding follow_unit_from follow_unit is_visited ◌>>=◌
      follows t = rw there (ap (unit_step (place_at main supplementary at) o t) (key-source at.source target))

      pub way_seen : v ≡ true → Ways (follow_unit_from main supplementary at o) main supplementary w x n at.left (Ok None)
      way_seen y = record { is = λ k. follows _ ∙ rw (← seen, y) }

      module _ (new : v ≡ false) where
        pub way_no-entry : LeadsIn s at.entry.unit o None → Ways (follow_unit_from main supplementary at o) main supplementary w x n at.left (Err Refusal.NoEntry)
        unfolding ◌>>=◌
        way_no-entry L = record { is = λ k. follows _ ∙ rw (← seen, new, rw is at L.is) }

        pub way-entry : {p : ℕ} → LeadsIn s at.entry.unit o (Some p) → PossibleKey main supplementary (key_in at.source ((unit_here (source_in main supplementary at.input) at.entry.unit).offset + o))
            → Ways (follow_unit_from main supplementary at o) main supplementary w x n at.left
            (Ok (Some (Way.Entry (record { input = at.input; source = at.source; entry = record { place = p; unit = at.entry.unit }; left = at.left - 1 }) (record { source = at.source; offset = target }))))
        unfolding ◌>>=◌
        way-entry L possible =
            let leads = rw is at L.is in
            record {
              is = record {
                is = λ k. follows _ ∙ rw (← seen, new, leads.0);
                stands = record { known = leads.1; sourced = A.sourced };
                deeper = refl;
                possible = rw (← rw is at way_sum) at possible;
                new = sym seen ∙ new;
              };
            }

-- ---- the reference that an attribute is

abbrev follow_by : Dwarf → Place → Trail → Given Reference → Outcome Followed
follow_by d p t None = followed_nothing t
follow_by d p t (Some (Reference.Unit o)) = follow_unit p t o
follow_by d p t (Some (Reference.Section o)) = follow_absolute d p.input main_source t o
follow_by d p t (Some (Reference.Supplementary o)) = follow_supplementary d p.input d.supplementary t o

follow-by : (d : Dwarf) (p : Place) (t : Trail) (o : Option Attribute) → follow d p t o ≡ follow_by d p t (reference_of o)
unfolding follow reference_of
follow-by d p t none = refl
follow-by d p t (some a) =
    either (eqb a.kind 4) (λ y. rw y) (λ n4.
    either (eqb a.kind 5) (λ y. rw (n4, y)) (λ n5.
    either (eqb a.kind 6) (λ y. rw (n4, n5, y)) (λ n6. rw (n4, n5, n6))))

-- which sheet a reference stands in, by the test
is-supplementary : (input : DebugSource) {b : Bool} → b ≡ true → b ≡ sameb the_type input DebugSource.Supplementary → input ≡ DebugSource.Supplementary
is-supplementary DebugSource.Main y e = absurd (true≢false (sym y ∙ e))
is-supplementary DebugSource.Supplementary y e = refl

is-main : (input : DebugSource) {b : Bool} → b ≡ false → b ≡ sameb the_type input DebugSource.Supplementary → input ≡ DebugSource.Main
is-main DebugSource.Main y e = refl
is-main DebugSource.Supplementary y e = absurd (true≢false (sym e ∙ y))

-- a supplementary reference
from-main : (d : Dwarf) (us : List CompilationUnit) (t : Trail) (o : ℕ) (input : DebugSource) → input ≡ DebugSource.Main → (length us ≡ 0 → ⊥)
    → follow_supplementary d (search_source input) us t o ≡ follow_absolute d (search_source DebugSource.Supplementary) (search_source DebugSource.Supplementary) t o
from-main d [] t o input is h = absurd (h refl)
from-main d (u ∷ us) t o input is h = rw is

from-none : (d : Dwarf) (us : List CompilationUnit) (t : Trail) (o : ℕ) (input : DebugSource) → length us ≡ 0 → follow_supplementary d (search_source input) us t o ≡ followed_nothing t
from-none d [] t o DebugSource.Main h = refl
from-none d [] t o DebugSource.Supplementary h = refl
from-none d (u ∷ us) t o input h = absurd (let z : ⊥ = omega arith in z)

module _ {main supplementary w s : List ℕ} {x : Tables} {n : ℕ} {at : EntryAt} (name : ℕ) (S : SearchIn main supplementary w x n) (A : Stands main supplementary at)
    (is : s ≡ source_in main supplementary at.input) {r : Given Reference} (e : r ≡ reference_of (attribute (entry_here s at.entry.place) name)) where
  pub reference-is : {q : Given Reference} → r ≡ q → reference_of (attribute (entry_here (source_in main supplementary at.input) at.entry.place) name) ≡ q
  reference-is to = sym (rw is at e) ∙ to

  followed : (q : Given Reference) → r ≡ q → (t : Trail) → follow_from main supplementary at name t ≡ follow_by (dwarf_of main supplementary) (place_at main supplementary at) t q
  unfolding follow_from
  followed q to t = follow-by (dwarf_of main supplementary) (place_at main supplementary at) t _ ∙ ap (follow_by (dwarf_of main supplementary) (place_at main supplementary at) t) (reference-is to)

  pub way-missing : r ≡ None → Ways (follow_from main supplementary at name) main supplementary w x n at.left (Ok None)
  way-missing to = record { is = λ k. followed None to _ }

  pub way_unit : {y : Result (Given Way) Refusal} (o : ℕ) → r ≡ Some (Reference.Unit o) → Ways (follow_unit_from main supplementary at o) main supplementary w x n at.left y
      → Ways (follow_from main supplementary at name) main supplementary w x n at.left y
  unfolding follow_unit_from
  way_unit {y} o to W = ways_as y (followed (Some (Reference.Unit o)) to) W

  pub way_section : (o : ℕ) → r ≡ Some (Reference.Section o)
      → Ways (follow_from main supplementary at name) main supplementary w x n at.left
      (Ok (Some (Way.Offset (record { input = at.input; key = record { source = DebugSource.Main; offset = o }; left = at.left - 1 }))))
  way_section o to = record {
    is = record {
      is = λ k. followed (Some (Reference.Section o)) to _;
      aims = record { possible = possible at.input A.known (reference-is to); sourced = sourced at.input };
      deeper = refl;
    };
  }
    where
      sourced : (input : DebugSource) → Sourced input DebugSource.Main
      sourced DebugSource.Main = refl
      sourced DebugSource.Supplementary = tt

      possible : (input : DebugSource) → EntryKnown (source_in main supplementary input) at.entry.unit at.entry.place
          → reference_of (attribute (entry_here (source_in main supplementary input) at.entry.place) name) ≡ Some (Reference.Section o) → PossibleKey main supplementary (key_in DebugSource.Main o)
      possible DebugSource.Main known is = possible-main_section name S.main-index.accepted known is
      possible DebugSource.Supplementary known is = possible-supplementary_section name S.supplementary-index.accepted known is

  -- how many units the supplementary sheet has
  unit-number : length (units supplementary) ≡ x.supplementary.units.count
  unit-number =
      let places = unit_places 0 (fields supplementary) in
      ap length (units-places supplementary) ∙ length-map places (unit_here supplementary) ∙ sym (length-map places (indexed_unit supplementary))
      ∙ sym (ap length S.supplementary-index.units) ∙ records-length unit_of24 24 w x.supplementary.units.base x.supplementary.units.count

  module _ (o : ℕ) (to : r ≡ Some (Reference.Supplementary o)) where
    pub way_no-units : x.supplementary.units.count ≡ 0 → Ways (follow_from main supplementary at name) main supplementary w x n at.left (Ok None)
    way_no-units z = record { is = λ k. followed (Some (Reference.Supplementary o)) to _ ∙ from-none (dwarf_of main supplementary) (units supplementary) _ o at.input (unit-number ∙ z) }

    pub way-inside : {b : Bool} → b ≡ true → b ≡ sameb the_type at.input DebugSource.Supplementary → Ways (follow_from main supplementary at name) main supplementary w x n at.left (Ok None)
    way-inside y same = record { is = λ k. followed (Some (Reference.Supplementary o)) to _ ∙ rw (is-supplementary at.input y same) }

    pub way-supplementary : {b : Bool} → b ≡ false → b ≡ sameb the_type at.input DebugSource.Supplementary → (x.supplementary.units.count ≡ 0 → ⊥)
        → Ways (follow_from main supplementary at name) main supplementary w x n at.left
        (Ok (Some (Way.Offset (record { input = DebugSource.Supplementary; key = record { source = DebugSource.Supplementary; offset = o }; left = at.left - 1 }))))
    way-supplementary y same some-units = let z = is-main at.input y same in record {
      is = record {
        is = λ k. followed (Some (Reference.Supplementary o)) to _ ∙ from-main (dwarf_of main supplementary) (units supplementary) _ o at.input z (λ none. some-units (sym unit-number ∙ none));
        aims = record { possible = possible-main-supplementary name S.main-index.accepted (rw z at A.known) (rw z at (reference-is to)); sourced = tt };
        deeper = refl;
      };
    }
