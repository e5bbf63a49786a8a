-- Where an offset of a section leads a search: it was followed already, is outside all units, in one where no entry starts there, or leads to an entry.
use mathlib.Core.Path.{◌≡◌, refl, sym, ap, ◌∙◌}
use mathlib.Core.Bool.{Bool, true, false, cond}
use mathlib.Core.List.{List}
use Prim.Native.Nat.{ℕ}
use Rattle.tlv.specs.declared.model.DebugSource.{DebugSource}
use Rattle.std.specs.Prelude.{Ok, Err, Some, None}
use Rattle.tlv.specs.declared.refusal.Refusal.{Refusal}
use Rattle.tlv.specs.Refusals.{number_of}
use Rattle.tlv.specs.Outcome.{Outcome, refused, done, ◌>>=◌}
use Rattle.tlv.specs.Lists.{exists}
use Rattle.tlv.specs.Model.{units}
use Rattle.files.specs.Pieces.{source_in}
use Rattle.references.specs.declared.tables.Tables.{Tables}
use Rattle.access.specs.declared.index.EntryPlace.{EntryPlace}
use Rattle.references.specs.declared.ways.EntryAt.{EntryAt}
use Rattle.references.specs.declared.ways.OffsetAt.{OffsetAt}
use Rattle.references.specs.Search.{Trail, DieKey, same_key, Followed, is_visited, visit, visit_entry, nothing, by_offset, followed_nothing, units_in, unit_containing, follow_in, follow_absolute}
use Rattle.references.specs.Tables.{Leads}
use Rattle.references.specs.Keys.{keys_at, key_in, keys_from}
use Rattle.references.specs.Names.{at_entry, dwarf_of, search_source, place_at, trail_at, Stands, Aims}

key_is : (source : DebugSource) (o : ℕ) → record { source = search_source source; offset = o } ≡ key_in source o
key_is DebugSource.Main o = refl
key_is DebugSource.Supplementary o = refl

units-are : (main supplementary : List ℕ) (input : DebugSource) → units_in (dwarf_of main supplementary) (search_source input) ≡ units (source_in main supplementary input)
unfolding units_in
units-are main supplementary DebugSource.Main = refl
units-are main supplementary DebugSource.Supplementary = refl

-- how it is followed
unfoldable pub follow_offset : List ℕ → List ℕ → OffsetAt → Trail → Outcome Followed
follow_offset main supplementary at t = follow_absolute (dwarf_of main supplementary) (search_source at.input) (search_source at.key.source) t at.key.offset

-- it was not followed yet, and is outside all units
pub record AimOutside (main supplementary w : List ℕ) (x : Tables) (n : ℕ) (at : OffsetAt) : Type 0 where
  pub is : (k : ℕ) → follow_offset main supplementary at (trail_at w (keys_from x) n k)
      ≡ done (record { trail = visit (trail_at w (keys_from x) n k) (key_in at.key.source at.key.offset); target = nothing })
  pub new : exists (same_key (key_in at.key.source at.key.offset)) (keys_at w (keys_from x) n) ≡ false

-- or leads to an entry
pub record AimEntry (main supplementary w : List ℕ) (x : Tables) (n : ℕ) (at : OffsetAt) (next : EntryAt) : Type 0 where
  pub is : (k : ℕ) → follow_offset main supplementary at (trail_at w (keys_from x) n k)
      ≡ done (record {
        trail = visit_entry (trail_at w (keys_from x) n k) (key_in at.key.source at.key.offset);
        target = by_offset (place_at main supplementary next);
      })
  pub new : exists (same_key (key_in at.key.source at.key.offset)) (keys_at w (keys_from x) n) ≡ false
  pub stands : Stands main supplementary next
  pub left : next.left ≡ at.left

module _ (main supplementary w : List ℕ) (x : Tables) (n : ℕ) (at : OffsetAt) (v : Bool) (seen : v ≡ exists (same_key (key_in at.key.source at.key.offset)) (keys_at w (keys_from x) n)) where
  follows : (k : ℕ) → follow_offset main supplementary at (trail_at w (keys_from x) n k)
      ≡ cond v (followed_nothing (trail_at w (keys_from x) n k)) (follow_in (search_source at.input) (record { source = search_source at.key.source; offset = at.key.offset }) (trail_at w (keys_from x) n k) (unit_containing (units (source_in main supplementary at.input)) at.key.offset))
  unfolding follow_offset follow_absolute is_visited
  follows k = rw (seen, ← key_is at.key.source at.key.offset, units-are main supplementary at.input)

  pub aim-seen : v ≡ true → (k : ℕ) → follow_offset main supplementary at (trail_at w (keys_from x) n k) ≡ followed_nothing (trail_at w (keys_from x) n k)
  aim-seen so k = follows k ∙ rw so

  module _ (not_so : v ≡ false) {s : List ℕ} (is : s ≡ source_in main supplementary at.input) where
    pub aim-refused : {e : Refusal} → Leads s at.key.offset (Err e) → (k : ℕ) → follow_offset main supplementary at (trail_at w (keys_from x) n k) ≡ refused (number_of e)
    unfolding ◌>>=◌
    aim-refused L k = let l = rw is at L.is in rw l.0 (follows k ∙ rw (not_so, l.1.containing, l.1.missing))

    pub aim-outside : Leads s at.key.offset (Ok None) → AimOutside main supplementary w x n at
    aim-outside L =
        let l = rw is at L.is in
        record {
          is = λ k. follows k ∙ rw (not_so, l) (ap (λ (y : DieKey). done (record { trail = visit (trail_at w (keys_from x) n k) y; target = nothing })) (key_is at.key.source at.key.offset));
          new = sym seen ∙ not_so;
        }

    pub aim-entry : Aims main supplementary at → {f : EntryPlace} → Leads s at.key.offset (Ok (Some f))
        → AimEntry main supplementary w x n at (at_entry at f)
    unfolding ◌>>=◌
    aim-entry A {f} L =
        let l = rw is at L.is in
        let next : EntryAt = at_entry at f in
        record {
          is = λ k. follows k ∙ rw (not_so, l.0, l.1)
              (ap (λ (y : DieKey). done (record { trail = visit_entry (trail_at w (keys_from x) n k) y; target = by_offset (place_at main supplementary next) })) (key_is at.key.source at.key.offset));
          new = sym seen ∙ not_so;
          stands = record { known = l.2; sourced = A.sourced };
          left = refl;
        }
