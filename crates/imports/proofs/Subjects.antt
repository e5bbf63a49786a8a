-- What the import of a unit adds to the records: one for each subject of the unit, in order, and what is written into it.
use mathlib.Core.Path.{◌≡◌, refl, sym, ap, ◌∙◌}
use mathlib.Core.Logic.{inl, inr}
use mathlib.Core.Bool.{Bool, true, false, cond, ◌&&◌, ◌||◌, not, false≢true, and-false}
use mathlib.Core.List.{List, [], ◌∷◌, ◌++◌, map}
use mathlib.Core.Option.{Option, none, some}
use Prim.Native.Nat.{ℕ, suc, ◌-◌, ◌^◌}
use native.Mathlib.Omega.{arith}
use lib.ListN.{drop}
use lib.Dec.{leb, ltb, eqb}
use borrow.Author.Tests.{ltb-true, le-leb, lt-ltb}
use Rattle.tlv.specs.declared.model.AddressRange.{AddressRange}
use Rattle.tlv.specs.declared.model.LineEntry.{LineEntry}
use Rattle.tlv.specs.Addresses.{Nonempty, Inside}
use Rattle.tlv.specs.Outcome.{done, ◌>>=◌}
use Rattle.tlv.specs.Lists.{Any, filter, exists, is_empty}
use Rattle.tlv.specs.Model.{CompilationUnit, Entry, EntryRange, RangeFailure}
use Rattle.tlv.proofs.TestLaws.{by_test, and_left, and_right}
use Rattle.tlv.proofs.PlaceLaws.{front_next}
use Rattle.tlv.proofs.OutcomeLaws.{done-is, with_done}
use Rattle.buffers.specs.Output.{Function, malformed_ranges, about, rejected_range}
use Rattle.lines.specs.Rows.{contains, for_range}
use Rattle.references.specs.Search.{Dwarf, resolve_name}
use Rattle.imports.specs.Tree.{Descendants, lies_in, die_ranges, ranges_of, extract_subprogram_details}
use Rattle.imports.specs.Import.{State, ImportContext, statement_sequence_offset, is_live_range, is_tombstone, rejected, sequence_warning, declaration_if, lines_with, rooted, detail_context, add_function, import_range, import_ranges, import_by_failure, import_subprogram, is_subprogram, descendants_of, import_unit_details}
use Rattle.imports.specs.Demand.{Subject, read_ranges, subjects_of, subjects_from, Live}
use Rattle.imports.proofs.KeepLaws.{lies_true}
use Rattle.imports.proofs.Adding.{Adds, adds_none, adds_one, adds_then}

-- ---- live ranges

-- the test says what `Live` says
pub live-range : (text : List AddressRange) (r : AddressRange) → is_live_range text r ≡ true → Live text r
unfolding is_live_range
live-range text r e =
    let filled = ltb r.start r.end in
    let short = ltb (r.end - r.start) (2 ^ 32) in
    let both = and_left (filled && short) (lies_in text r) e in
    let size = ltb-true (r.end - r.start) (2 ^ 32) (and_right filled short both) in
    record { filled = ltb-true r.start r.end (and_left filled short both); size = omega arith; in_text = lies_true text r (and_right (filled && short) (lies_in text r) e) }

-- a range of text around a nonempty range contains its start
starts_in : (r : AddressRange) → Nonempty r → (text : List AddressRange) → Any (Inside r) text → exists (λ t. contains t r.start) text ≡ true
unfolding exists contains
starts_in r h [] x' = elim x' [ ]
starts_in r h (p ∷ ps) (inl i) = rw (le-leb p.start r.start i.0, lt-ltb r.start p.end (omega arith))
starts_in r h (p ∷ ps) (inr i) = by_test (λ b. b ≡ true) (leb p.start r.start && ltb r.start p.end) (λ e. refl) (λ e. starts_in r h ps i)

-- a live range is no tombstone
live-stands : (text : List AddressRange) (r : EntryRange) → is_live_range text r.range ≡ true → is_tombstone text r ≡ false
unfolding is_tombstone
live-stands text r e =
    let l = live-range text r.range e in
    rw (starts_in r.range l.filled text l.in_text) (and-false (eqb r.range.start 0 || r.tombstone))

-- ---- what is written into a record

abbrev subject : ℕ → AddressRange → Subject
subject n r = record { number = n; range = r }

records-same : {s t : State} → done s ≡ done t → s.records ≡ t.records
records-same e = ap (λ (x : State). x.records) (done-is e)

-- what the import writes into record f for subject k
pub record Written (q : ImportContext) (k : Subject) (f : Function) : Type 0 where
  -- the entry, and those after it
  pub source : Entry
  pub after : List Entry
  pub place : drop k.number q.unit.entries ≡ source ∷ after
  pub subprogram : is_subprogram source ≡ true
  pub name : resolve_name q.dwarf q.unit source ≡ done f.name
  pub named : is_empty f.name ≡ false
  pub live : is_live_range q.unit.text k.range ≡ true
  pub range : f.range ≡ k.range
  -- the row of the declaration, where it was looked for and found
  pub found : Option LineEntry
  pub lines : f.lines ≡ lines_with k.range found (for_range q.lines k.range (statement_sequence_offset q.unit source)).rows
  pub walk : Descendants
  pub walked : extract_subprogram_details (detail_context q k.range) (descendants_of source.depth after) ≡ done walk
  pub inline : f.inline ≡ rooted f.name k.range walk.inlines

module _ (q : ImportContext) (n : ℕ) (e : Entry) (es : List Entry) (place : drop n q.unit.entries ≡ e ∷ es) (sub : is_subprogram e ≡ true) where
  module _ (name : List ℕ) (found : resolve_name q.dwarf q.unit e ≡ done name) (named : is_empty name ≡ false) where
    abbrev record_of : AddressRange → Option LineEntry → Descendants → Function
    record_of r l x = record {
      range = r;
      name = name;
      lines = lines_with r l (for_range q.lines r (statement_sequence_offset q.unit e)).rows;
      inline = rooted name r x.inlines;
      call_sites = x.call_sites;
    }

    -- a live range adds one record
    one-range : (r : AddressRange) (s t : State) → is_live_range q.unit.text r ≡ true → import_range q e (descendants_of e.depth es) name r s ≡ done t
        → Adds (Written q) (subject n r ∷ []) s.records t.records
    unfolding import_range add_function
    one-range r s t l h =
        with_done (sequence_warning q.unit e (statement_sequence_offset q.unit e) (for_range q.lines r (statement_sequence_offset q.unit e)).invalid) _ h λ ws _ h₁.
        with_done (declaration_if q e s.table (s.warnings ++ ws) (for_range q.lines r (statement_sequence_offset q.unit e)).rows) _ h₁ λ d _ h₂.
        with_done (extract_subprogram_details (detail_context q r) (descendants_of e.depth es)) _ h₂ λ x w h₃.
        adds_one (Written q) (subject n r) (record_of r d.found x) (sym (records-same h₃)) (record {
          source = e;
          after = es;
          place = place;
          subprogram = sub;
          name = found;
          named = named;
          live = l;
          range = refl;
          found = d.found;
          lines = refl;
          walk = x;
          walked = w;
          inline = refl;
        })

    abbrev live_subjects : List AddressRange → List Subject
    live_subjects rs = map (subject n) (filter (is_live_range q.unit.text) rs)

    -- ranges add one for each that is live: a tombstone is not
    ranges : (rs : List EntryRange) (s t : State) → import_ranges q e (descendants_of e.depth es) name rs s ≡ done t
        → Adds (Written q) (live_subjects (map (λ r. r.range) rs)) s.records t.records
    unfolding import_ranges filter rejected
    ranges [] s t h = adds_none (Written q) (sym (records-same h))
    ranges (r ∷ rs) s t h = go (is_live_range q.unit.text r.range) refl (is_tombstone q.unit.text r) refl (λ x. ranges rs x t) h
      where
        go : (l : Bool) → is_live_range q.unit.text r.range ≡ l → (b : Bool) → is_tombstone q.unit.text r ≡ b
            → ((x : State) → import_ranges q e (descendants_of e.depth es) name rs x ≡ done t → Adds (Written q) (live_subjects (map (λ y. y.range) rs)) x.records t.records)
            → cond b (import_ranges q e (descendants_of e.depth es) name rs (rejected [] s))
            (cond l (import_range q e (descendants_of e.depth es) name r.range s >>= import_ranges q e (descendants_of e.depth es) name rs)
            (import_ranges q e (descendants_of e.depth es) name rs (rejected (about rejected_range r.range.start r.range.end ∷ []) s))) ≡ done t
            → Adds (Written q) (map (subject n) (cond l (r.range ∷ filter (is_live_range q.unit.text) (map (λ y. y.range) rs)) (filter (is_live_range q.unit.text) (map (λ y. y.range) rs)))) s.records t.records
        go true l true b ih k = absurd (false≢true (sym (live-stands q.unit.text r l) ∙ b))
        go true l false b ih k = with_done (import_range q e (descendants_of e.depth es) name r.range s) _ k λ x h₁ h₂.
            adds_then (Written q) (one-range r.range s x l h₁) (ih x h₂)
        go false l true b ih k = ih _ k
        go false l false b ih k = ih _ k

    -- a failure before any range leaves none to be imported; one after them takes no record back
    by-failure : (o : Option RangeFailure) (s t : State) → import_by_failure q e (descendants_of e.depth es) name o s ≡ done t
        → Adds (Written q) (live_subjects (read_ranges q.dwarf e o)) s.records t.records
    unfolding ranges_of rejected filter
    by-failure none s t h = ranges (die_ranges q.dwarf e).given s t h
    by-failure (some f) s t h = go (eqb f.stage 0) h
      where
        go : (b : Bool) → cond b (done (rejected (malformed_ranges false f.reason ∷ []) s))
            (import_ranges q e (descendants_of e.depth es) name (die_ranges q.dwarf e).given s >>= λ t. done (rejected (malformed_ranges true f.reason ∷ []) t)) ≡ done t
            → Adds (Written q) (live_subjects (cond b [] (map (λ r. r.range) (die_ranges q.dwarf e).given))) s.records t.records
        go true k = adds_none (Written q) (sym (records-same k))
        go false k = with_done (import_ranges q e (descendants_of e.depth es) name (die_ranges q.dwarf e).given s) _ k λ x h₁ h₂.
            rw (← (records-same h₂)) (ranges (die_ranges q.dwarf e).given s x h₁)

  -- a subprogram adds those of its subjects: none without a name
  one-subprogram : (s t : State) → import_subprogram q e (descendants_of e.depth es) s ≡ done t → Adds (Written q) (subjects_of q.dwarf q.unit n e) s.records t.records
  unfolding import_subprogram subjects_of
  one-subprogram s t h = with_done (resolve_name q.dwarf q.unit e) _ h λ name h₁ h₂. rw (sub, h₁) (go name (is_empty name) refl h₁ h₂)
    where
      go : (name : List ℕ) (b : Bool) → is_empty name ≡ b → resolve_name q.dwarf q.unit e ≡ done name
          → cond b (done s) (import_by_failure q e (descendants_of e.depth es) name (die_ranges q.dwarf e).failure s) ≡ done t
          → Adds (Written q) (cond (not b) (map (subject n) (filter (is_live_range q.unit.text) (read_ranges q.dwarf e (die_ranges q.dwarf e).failure))) []) s.records t.records
      go name true b f k = adds_none (Written q) (sym (records-same k))
      go name false b f k = by-failure name f b (die_ranges q.dwarf e).failure s t k

-- an entry that is no subprogram has no subjects
no-subjects : (d : Dwarf) (u : CompilationUnit) (n : ℕ) (e : Entry) → is_subprogram e ≡ false → subjects_of d u n e ≡ []
unfolding subjects_of
no-subjects d u n e h = rw h

-- the entries from number n on add those of their subjects
pub from_entries : (q : ImportContext) (es : List Entry) (n : ℕ) → drop n q.unit.entries ≡ es → (s t : State) → import_unit_details q es s ≡ done t
    → Adds (Written q) (subjects_from q.dwarf q.unit n es) s.records t.records
unfolding import_unit_details subjects_from
from_entries q [] n p s t h = adds_none (Written q) (sym (records-same h))
from_entries q (e ∷ es) n p s t h = go (is_subprogram e) refl (λ x. from_entries q es (suc n) (front_next n q.unit.entries e es p) x t) h
  where
    go : (b : Bool) → is_subprogram e ≡ b
        → ((x : State) → import_unit_details q es x ≡ done t → Adds (Written q) (subjects_from q.dwarf q.unit (suc n) es) x.records t.records)
        → cond b (import_subprogram q e (descendants_of e.depth es) s >>= import_unit_details q es) (import_unit_details q es s) ≡ done t
        → Adds (Written q) (subjects_of q.dwarf q.unit n e ++ subjects_from q.dwarf q.unit (suc n) es) s.records t.records
    go true b ih k = with_done (import_subprogram q e (descendants_of e.depth es) s) _ k λ x h₁ h₂. adds_then (Written q) (one-subprogram q n e es p b s x h₁) (ih x h₂)
    go false b ih k = rw (no-subjects q.dwarf q.unit n e b) (ih s k)
