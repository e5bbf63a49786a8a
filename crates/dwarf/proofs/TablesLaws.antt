-- The tables of both inputs: they lie apart, and stay while other parts of work are written.
use mathlib.Core.Path.{◌≡◌, refl, sym, ◌∙◌}
use mathlib.Core.Logic.{inl}
use mathlib.Core.List.{List}
use Prim.Native.Nat.{ℕ, ◌+◌, ◌-◌, ◌*◌, ◌≤◌}
use native.Mathlib.Omega.{arith}
use lib.ListN.{length}
use Rattle.tlv.specs.Fields.{fields}
use Rattle.tlv.specs.Checked.{Accepted}
use Rattle.buffers.specs.Table.{Kept, Clear, KeptBut}
use Rattle.buffers.proofs.TableLaws.{kept_trans, kept-wide, here}
use Rattle.access.specs.Places.{unit_places}
use Rattle.collect.proofs.FrameLaws.{kept-one}
use Rattle.references.specs.declared.tables.Index.{Index}
use Rattle.references.proofs.FollowLaws.{index_kept, index-clear}
use Rattle.dies.specs.Details.{entry_count}
use Rattle.checks.specs.declared.layout.Layout.{Layout}
use Rattle.checks.specs.Layout.{LaidOut}
use Rattle.dwarf.specs.declared.tables.Indexes.{Indexes}
use Rattle.dwarf.specs.Tables.{IndexedAt, IndexesInput, TablesIn, IndexesInputs}
use Rattle.dwarf.specs.Units.{above_tables}

-- ---- where the tables stand

module _ {main supplementary program lists : List ℕ} {l : Layout} (L : LaidOut main supplementary program lists l) where
  -- the file table lies behind all tables
  pub supplementary-below : l.supplementary_units ≤ l.files
  supplementary-below = let a = L.supplementary-entries in let b = L.files in omega arith

  pub main-below : l.main_entries + 16 * entry_count main ≤ l.supplementary_units
  main-below = L.supplementary-units

-- the frame of an input's tables, as one stretch
index-rest : {s w w' : List ℕ} {units entries : ℕ} {x : Index} (p m : ℕ) → IndexesInput s w w' units entries x → p ≤ units → units + 24 * length (unit_places 0 (fields s)) ≤ entries
    → entries + 16 * entry_count s ≤ p + m → Kept w w' p m
index-rest p m I a b c = kept-one p m I.rest (here a (omega arith), (here (omega arith) c, tt))

-- ---- both inputs' tables are written

module _ {main supplementary program lists : List ℕ} (w : List ℕ) {l : Layout} (L : LaidOut main supplementary program lists l) (room : l.files ≤ length w) where
  pub main-room : l.main_entries + 16 * entry_count main ≤ length w
  main-room = let a = main-below L in let b = supplementary-below L in omega arith

  pub supplementary-room : l.supplementary_entries + 16 * entry_count supplementary ≤ length w
  supplementary-room = let a = L.files in omega arith

  module _ {w₁ w₂ : List ℕ} {m s : Index} (M : IndexesInput main w w₁ 0 l.main_entries m)
      (S : IndexesInput supplementary w₁ w₂ l.supplementary_units l.supplementary_entries s) (size₁ : length w₁ ≡ length w) (size₂ : length w₂ ≡ length w) where
    supplementary-rest : Kept w₁ w₂ l.supplementary_units (l.files - l.supplementary_units)
    supplementary-rest =
        let a = supplementary-below L in
        let d = L.files in
        index-rest l.supplementary_units (l.files - l.supplementary_units) S (omega arith) L.supplementary-entries (omega arith)

    main-rest : Kept w w₁ 0 l.files
    main-rest =
        let a = supplementary-below L in
        let c = main-below L in
        index-rest 0 l.files M (omega arith) (let d = L.main-entries in omega arith) (omega arith)

    main-still : IndexedAt main w₂ 0 l.main_entries m
    main-still =
        let H = M.here in
        record {
          index = index_kept H.index supplementary-rest
              (let a = L.main-entries in let b = main-below L in let c = H.units-at in let d = H.unit-count in omega arith)
              (let b = main-below L in let c = H.entries_at in let d = H.entry-count in omega arith)
              (size₂ ∙ sym size₁);
          units-at = H.units-at;
          entries_at = H.entries_at;
          unit-count = H.unit-count;
          entry-count = H.entry-count;
        }

    pub indexes-inputs : IndexesInputs main supplementary program lists w w₂ l (record { layout = l; main = m; supplementary = s })
    indexes-inputs = record {
      layout-is = refl;
      tables = record { laid = L; of_main = main-still; of-supplementary = S.here };
      rest = kept_trans main-rest (let b = supplementary-below L in kept-wide 0 l.files supplementary-rest (omega arith) (omega arith));
    }

-- ---- they stay

index-but : {s w w' : List ℕ} {units entries : ℕ} {x : Index} {rs : List (ℕ × ℕ)} → IndexedAt s w units entries x → KeptBut w w' rs
    → Clear x.units.base (x.units.count * 24) rs → Clear x.entries.base (x.entries.count * 16) rs → length w' ≡ length w → IndexedAt s w' units entries x
index-but H K a b size = record { index = index-clear H.index K a b size; units-at = H.units-at; entries_at = H.entries_at; unit-count = H.unit-count; entry-count = H.entry-count }

module _ {main supplementary program lists w : List ℕ} {l : Layout} {x : Indexes} (T : TablesIn main supplementary program lists w l x) where
  pub accepted-main : Accepted main
  accepted-main = record { number = T.of_main.index.number; is = T.of_main.index.accepted }

  pub accepted-supplementary : Accepted supplementary
  accepted-supplementary = record { number = T.of-supplementary.index.number; is = T.of-supplementary.index.accepted }

  -- each table stands below the file table
  pub units-below : x.main.units.base + 24 * x.main.units.count ≤ l.files
  units-below =
      let H = T.of_main in
      let a = T.laid.main-entries in
      let b = main-below T.laid in
      let c = supplementary-below T.laid in
      omega (arith, H.units-at, H.unit-count)

  pub entries_within : x.main.entries.base + 16 * x.main.entries.count ≤ l.files
  entries_within =
      let H = T.of_main in
      let b = main-below T.laid in
      let c = supplementary-below T.laid in
      omega (arith, H.entries_at, H.entry-count)

  pub other-units_below : x.supplementary.units.base + 24 * x.supplementary.units.count ≤ l.files
  other-units_below =
      let H = T.of-supplementary in
      let a = T.laid.supplementary-entries in
      let b = T.laid.files in
      omega (arith, H.units-at, H.unit-count)

  pub other-entries_below : x.supplementary.entries.base + 16 * x.supplementary.entries.count ≤ l.files
  other-entries_below =
      let H = T.of-supplementary in
      let b = T.laid.files in
      omega (arith, H.entries_at, H.entry-count)

  -- what lies below the file table stays
  below-files : (p k : ℕ) → p + k ≤ l.files → Clear p k (above_tables l (length w))
  below-files p k a = (inl a, tt)

  pub tables-kept : {w' : List ℕ} → KeptBut w w' (above_tables l (length w)) → length w' ≡ length w → TablesIn main supplementary program lists w' l x
  tables-kept K size =
      let a = units-below in
      let b = entries_within in
      let c = other-units_below in
      let d = other-entries_below in
      record {
        laid = T.laid;
        of_main = index-but T.of_main K (below-files x.main.units.base (x.main.units.count * 24) (omega arith))
            (below-files x.main.entries.base (x.main.entries.count * 16) (omega arith)) size;
        of-supplementary = index-but T.of-supplementary K (below-files x.supplementary.units.base (x.supplementary.units.count * 24) (omega arith))
            (below-files x.supplementary.entries.base (x.supplementary.entries.count * 16) (omega arith)) size;
      }
