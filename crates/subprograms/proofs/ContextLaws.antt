-- What stands in the work slice for a unit's import stays while the rest of it is written to.
use mathlib.Core.Path.{◌≡◌, sym, subst, ap, ◌∙◌}
use mathlib.Core.Logic.{inl, inr, ⊎_elim}
use mathlib.Core.List.{List, [], ◌∷◌}
use mathlib.Core.Option.{Option, none, some}
use Prim.Native.Nat.{ℕ, zero, suc, ◌+◌, ◌*◌, ◌≤◌}
use native.Mathlib.Nat.{le_refl}
use native.Mathlib.Omega.{arith}
use lib.ListN.{length}
use Rattle.tlv.specs.Lists.{at, Any}
use Rattle.tlv.specs.Fields.{fields}
use Rattle.tlv.specs.Model.{range_of as addresses_of}
use Rattle.buffers.specs.Table.{Kept, Clear, KeptBut}
use Rattle.buffers.proofs.TableLaws.{here, there, but_of}
use Rattle.buffers.proofs.RecordLaws.{records-but}
use Rattle.access.specs.Places.{unit_here, unit_places, UnitOf}
use Rattle.files.specs.declared.store.StoredFiles.{StoredFiles}
use Rattle.files.specs.Store.{extent, FilesIn}
use Rattle.files.specs.Indices.{index_of, indices_of, indices_in}
use Rattle.rows.specs.Sizes.{entry_size, line_size, sequence_range_size}
use Rattle.rows.specs.Stored.{line_of, lines_of, range_of, ranges_of}
use Rattle.collect.specs.Collects.{UnitIn, lines_in}
use Rattle.references.specs.declared.tables.Index.{Index}
use Rattle.references.specs.Tables.{IndexIn}
use Rattle.references.proofs.KeyLaws.{keys-in_none}
use Rattle.references.proofs.FollowLaws.{index-clear}
use Rattle.ranges.specs.RangeTable.{ranges_at}
use Rattle.dies.specs.Details.{dwarf_with}
use Rattle.subprograms.specs.declared.model.ImportContext.{ImportContext}
use Rattle.subprograms.specs.Contexts.{context_with, Ordered, ContextIn, touched, walk_extent}

-- ---- a unit by its number stands among all

abbrev value_of : Option ℕ → ℕ
value_of none = 0
value_of (some x) = x

abbrev Known : Option ℕ → Type 0
Known none = ⊥
Known (some x) = Unit {0}

at-any : (q n : ℕ) (xs : List ℕ) → at xs n ≡ some q → Any (λ p. p ≡ q) xs
unfolding at
at-any q n [] e = subst Known (sym e) tt
at-any q zero (x ∷ xs) e = inl (ap value_of e)
at-any q (suc n) (x ∷ xs) e = inr (at-any q n xs e)

pub unit-of : {s : List ℕ} {p : ℕ} → UnitIn s p → UnitOf s p
unit-of {s} {p} U = at-any p U.number (unit_places 0 (fields s)) U.is

-- ---- the order of the tables

-- the order of the tables asks of the file table only where it is and how large
pub ordered-as : {main supplementary : List ℕ} {q : ImportContext} {t t' : StoredFiles} → t'.base ≡ t.base → t'.room ≡ t.room
    → Ordered main supplementary q t → Ordered main supplementary q t'
ordered-as b r O = record {
  main-units = omega (arith, O.main-units);
  main-entries = omega (arith, O.main-entries);
  supplementary-units = omega (arith, O.supplementary-units);
  supplementary-entries = omega (arith, O.supplementary-entries);
  table = omega (arith, O.table);
  indices = O.indices;
  lines = O.lines;
  sequences = O.sequences;
  buffer = O.buffer;
  text = O.text;
  spans = O.spans;
  ranges = O.ranges;
  stack = O.stack;
  sites = O.sites;
  room-main = O.room-main;
  room-supplementary = O.room-supplementary;
}

-- ---- what lies clear of all that is written to

module _ {main supplementary : List ℕ} {q : ImportContext} {t : StoredFiles} (O : Ordered main supplementary q t) where
  -- where the unit's map, rows and sequences stand
  below_rows : (p k : ℕ) → q.context.indices.base ≤ p → p + k ≤ q.lines.buffer → Clear p k (touched main supplementary q t)
  unfolding touched
  below_rows p k h g =
      let up : q.lines.buffer + (entry_size + q.lines.lines.count * entry_size) ≤ q.spans = omega (arith, O.buffer, O.text) in
      let far : q.spans ≤ q.context.ranges = omega (arith, O.spans) in
      (inr (omega (arith, O.table)), (inl g, (inl (omega arith), (inl (omega arith), tt))))

  -- the executable ranges
  below-spans : (p k : ℕ) → q.lines.buffer + entry_size + q.lines.lines.count * entry_size ≤ p → p + k ≤ q.spans
      → Clear p k (touched main supplementary q t)
  unfolding touched
  below-spans p k h g =
      let down : t.base + extent t ≤ q.lines.buffer = omega (arith, O.table, O.indices, O.lines, O.sequences) in
      let far : q.spans ≤ q.context.ranges = omega (arith, O.spans) in
      (inr (omega arith), (inr (omega arith), (inl g, (inl (omega arith), tt))))

  -- the units and entries of the inputs
  below-table : (p k : ℕ) → p + k ≤ t.base → Clear p k (touched main supplementary q t)
  unfolding touched
  below-table p k h =
      let down : t.base + extent t ≤ q.lines.buffer = omega (arith, O.table, O.indices, O.lines, O.sequences) in
      let up : q.lines.buffer ≤ q.spans = omega (arith, O.buffer, O.text) in
      let far : q.spans ≤ q.context.ranges = omega (arith, O.spans) in
      (inl h, (inl (omega arith), (inl (omega arith), (inl (omega arith), tt))))

-- ---- what stays

module _ {main supplementary w w' : List ℕ} {q : ImportContext} {t : StoredFiles} (C : ContextIn main supplementary w q t)
    (K : KeptBut w w' (touched main supplementary q t)) where
  -- an input's units and entries
  index_same : {s : List ℕ} {x : Index} → x.units.base + 24 * x.units.count ≤ t.base → x.entries.base + 16 * x.entries.count ≤ t.base → length w' ≡ length w
      → IndexIn s w x → IndexIn s w' x
  index_same to-units to-entries size I = index-clear I K (below-table C.ordered _ _ (omega arith)) (below-table C.ordered _ _ (omega arith)) size

  lines_same : lines_of w' q.lines.lines.base q.lines.lines.count ≡ lines_of w q.lines.lines.base q.lines.lines.count
  unfolding lines_of
  lines_same =
      let O = C.ordered in
      records-but line_of line_size q.lines.lines.base q.lines.lines.count K
      (below_rows O _ _ (omega (arith, O.indices)) (omega (arith, O.lines, O.sequences)))

  sequences-same : ranges_of w' q.lines.sequences.base q.lines.sequences.count ≡ ranges_of w q.lines.sequences.base q.lines.sequences.count
  unfolding ranges_of
  sequences-same =
      let O = C.ordered in
      records-but range_of sequence_range_size q.lines.sequences.base q.lines.sequences.count K
      (below_rows O _ _ (omega (arith, O.indices, O.lines)) O.sequences)

  map_same : indices_in w' q.context.indices ≡ indices_in w q.context.indices
  unfolding indices_of
  map_same =
      let O = C.ordered in
      records-but index_of 5 q.context.indices.base q.context.indices.count K (below_rows O _ _ (le_refl _) (omega (arith, O.indices, O.lines, O.sequences)))

  text_same : ranges_at w' q.text.base q.text.count ≡ ranges_at w q.text.base q.text.count
  unfolding ranges_at
  text_same = let O = C.ordered in records-but addresses_of 16 q.text.base q.text.count K (below-spans O _ _ O.buffer O.text)

  -- the tables stay, and the file table has become another
  pub context-kept : {t' : StoredFiles} → length w' ≡ length w → t'.base ≡ t.base → t'.room ≡ t.room → FilesIn main supplementary w' t'
      → ContextIn main supplementary w' q t'
  context-kept size b r F =
      let O = C.ordered in
      let S = C.tables in
      record {
        unit = C.unit;
        tables = record {
          main-index = index_same O.main-units O.main-entries size S.main-index;
          supplementary-index = index_same O.supplementary-units O.supplementary-entries size S.supplementary-index;
          keys = keys-in_none (rw size S.keys.room);
          main-units = S.main-units;
          main-entries = S.main-entries;
          supplementary-units = S.supplementary-units;
          supplementary-entries = S.supplementary-entries;
        };
        rows = record {
          lines = C.rows.lines;
          sequences = C.rows.sequences;
          buffer = rw size C.rows.buffer;
          sorted = rw lines_same C.rows.sorted;
        };
        text = text_same ∙ C.text;
        files = F;
        ordered = ordered-as b r O;
        third = C.third;
        listless = C.listless;
      }

  lines_in-same : lines_in w' q.lines q.context.indices ≡ lines_in w q.lines q.context.indices
  unfolding lines_in
  lines_in-same = λ i. record { entries = lines_same i; files = map_same i; sequences = sequences-same i }

  -- and so does the definition's context
  pub context-same : (lists addresses : List ℕ) → context_with main supplementary lists addresses w' q ≡ context_with main supplementary lists addresses w q
  context-same lists addresses = λ i. record {
    dwarf = dwarf_with main supplementary lists addresses;
    unit = unit_here main q.context.unit;
    lines = lines_in-same i;
    include_inlines = q.context.include_inlines;
    include_call_sites = q.context.include_call_sites;
  }

-- ---- what stretches are written to

-- they too depend only on where the file table is and how large
pub touched-as : (main supplementary : List ℕ) (q : ImportContext) (t t' : StoredFiles) {w w' : List ℕ} → t'.base ≡ t.base → t'.room ≡ t.room
    → KeptBut w w' (touched main supplementary q t') → KeptBut w w' (touched main supplementary q t)
unfolding touched
touched-as main supplementary q t t' b r K = record { same = λ p k c. K.same p k (⊎_elim (λ l. inl (omega arith)) (λ l. inr (omega arith)) c.0, c.1) }

module _ (main supplementary : List ℕ) {w w' : List ℕ} (q : ImportContext) (t : StoredFiles) where
  -- the rows of a function
  pub touched-rows : Kept w w' q.lines.buffer (entry_size + q.lines.lines.count * entry_size) → KeptBut w w' (touched main supplementary q t)
  unfolding touched
  touched-rows K = but_of K (there (here (le_refl _) (le_refl _)))

  -- the walk's part
  pub touched-walk : Kept w w' q.context.ranges (walk_extent main supplementary q) → KeptBut w w' (touched main supplementary q t)
  unfolding touched
  touched-walk K = but_of K (there (there (there (here (le_refl _) (le_refl _)))))
