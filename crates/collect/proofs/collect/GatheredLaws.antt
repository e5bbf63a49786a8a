-- The rows of a unit are gathered above its lines, and then finished: what stands below stays.
use mathlib.Core.Path.{◌≡◌}
use mathlib.Core.Logic.{inl}
use mathlib.Core.List.{List, [], ◌∷◌}
use Prim.Native.Nat.{ℕ, ◌+◌, ◌*◌, ◌≤◌}
use native.Mathlib.Omega.{arith}
use lib.ListN.{length}
use Rattle.std.specs.Prelude.{Result, Ok, Err}
use Rattle.tlv.specs.declared.refusal.Refusal.{Refusal}
use Rattle.tlv.specs.Refusals.{number_of}
use Rattle.tlv.specs.Outcome.{Outcome, refused, done, ◌>>=◌}
use Rattle.tlv.specs.Bytes.{le}
use Rattle.tlv.specs.Model.{LineRow}
use Rattle.buffers.specs.Table.{KeptBut}
use Rattle.buffers.proofs.TableLaws.{here, there, but_of, but_one, but_trans}
use Rattle.buffers.proofs.RecordLaws.{records-kept}
use Rattle.lines.specs.Lines.{Collected}
use Rattle.files.specs.declared.store.StoredFiles.{StoredFiles}
use Rattle.files.specs.Store.{extent, table_of}
use Rattle.files.specs.Indices.{index_of, indices_of, indices_in}
use Rattle.files.proofs.GrownLaws.{unit_kept, table_kept, files-kept, grown-after}
use Rattle.rows.specs.Sizes.{entry_size, row_room}
use Rattle.collect.specs.declared.collect.CollectedLines.{CollectedLines}
use Rattle.collect.specs.declared.convert.Conversion.{Conversion}
use Rattle.collect.specs.declared.source.GatheredRows.{GatheredRows}
use Rattle.collect.specs.Passes.{count_all}
use Rattle.collect.specs.Sources.{rows_here, UnitGathered, GathersUnit}
use Rattle.collect.specs.Converts.{offsets_of, ConversionIn}
use Rattle.collect.specs.Stages.{finish_rows, FinishesBy, FinishesLines}
use Rattle.collect.proofs.RunLaws.{count-refused}
use Rattle.collect.proofs.FrameLaws.{but_wide}

-- a fault of the rows
pub finish-fault : (x : Outcome (List LineRow)) (f : ℕ) → count_all x ≡ refused f → (main supplementary w : List ℕ) (c : Conversion) (t : StoredFiles)
    → finish_rows x main supplementary w c t ≡ refused f
unfolding ◌>>=◌
finish-fault (refused g) f k main supplementary w c t = cc
finish-fault (done rows) f k main supplementary w c t = rw (count-refused rows f k)

module _ {x : Outcome (List LineRow)} {most : ℕ} {main supplementary w w₁ : List ℕ} {c : Conversion} {t : StoredFiles} {warned : ℕ}
    (C : ConversionIn main supplementary w c (record { table = t; count = 0; warned = warned })) {r : Result GatheredRows Refusal}
    (G : GathersUnit x main w w₁ c.lines most r) where
  table_below : t.base + extent t ≤ c.lines
  table_below =
      let a = C.table in
      let b = C.offsets in
      let d = C.directories in
      let i = C.indices in
      omega arith

  maps-same : indices_in w₁ c.indices ≡ indices_in w c.indices
  unfolding indices_of
  maps-same = records-kept index_of 5 c.indices.base c.indices.count G.rest (inl C.indices)

  offsets-same : offsets_of w₁ c ≡ offsets_of w c
  offsets-same =
      let b = C.offsets in
      let d = C.directories in
      let i = C.indices in
      records-kept le 8 c.offsets.base c.offsets.count G.rest (inl (omega arith))

  pub gathered-conversion : length w₁ ≡ length w → ConversionIn main supplementary w₁ c (record { table = t; count = 0; warned = warned })
  gathered-conversion size =
      let d = C.directories in
      let i = C.indices in
      record {
        placed = C.placed;
        files = files-kept C.files (but_one G.rest) (inl table_below, tt) size;
        source = C.source;
        unit = unit_kept C.unit (but_one G.rest) (inl (omega arith), tt) size;
        listed = C.listed;
        zero = C.zero;
        unnamed = rw maps-same C.unnamed;
        all = C.all;
        table = C.table;
        offsets = C.offsets;
        directories = C.directories;
        indices = C.indices;
        lines = omega (arith, C.lines);
      }

  abbrev stretches : List (ℕ × ℕ)
  stretches = (t.base, extent t) ∷ (c.indices.base, c.indices.count * 5) ∷ (c.lines, row_room * most + entry_size) ∷ []

  gathered-rest : KeptBut w w₁ stretches
  gathered-rest = but_of G.rest (there (there (here (omega arith) (omega arith))))

module _ {x : Outcome (List LineRow)} {most : ℕ} {main supplementary w w₁ : List ℕ} {c : Conversion} {t : StoredFiles} {warned : ℕ}
    (C : ConversionIn main supplementary w c (record { table = t; count = 0; warned = warned })) where
  pub gathered-fault : {files files' warnings warnings' : List ℕ} {e : Refusal} → GathersUnit x main w w₁ c.lines most (Err e)
      → FinishesLines x most main supplementary w w₁ files files' warnings warnings' c t warned (Err e)
  gathered-fault {e = e} G = record { is = finish-fault x (number_of e) G.is main supplementary w c t; rest = gathered-rest C G }

  module _ {k : GatheredRows} (G : GathersUnit x main w w₁ c.lines most (Ok k)) where
    pub gathered : UnitGathered x main w₁ c.lines most k.counted.lines k.counted.sequences k.rows
    gathered = G.is

    abbrev given : List LineRow
    given = rows_here main w₁ k.rows

    finish-same : (y : Outcome Collected) → finish_rows (done given) main supplementary w₁ c t ≡ y → finish_rows x main supplementary w c t ≡ y
    unfolding ◌>>=◌
    finish-same y e =
        let tables : table_of main supplementary w₁ t ≡ table_of main supplementary w t = table_kept C.files (but_one G.rest) (inl (table_below C G), tt) in
        rw gathered.is (rw (tables, maps-same C G, offsets-same C G) at e)

    finishes-by : (w₂ files files₁ warnings warnings₁ : List ℕ) (r₂ : Result CollectedLines Refusal)
        → FinishesBy (done given) (length given) main supplementary w₁ w₂ files files₁ warnings warnings₁ c t warned r₂
        → FinishesBy x most main supplementary w w₂ files files₁ warnings warnings₁ c t warned r₂
    finishes-by w₂ files files₁ warnings warnings₁ (Err e) F = finish-same (refused (number_of e)) F
    finishes-by w₂ files files₁ warnings warnings₁ (Ok r) F = record {
      new = F.new;
      finished = finish-same _ F.finished;
      grown = grown-after C.files (but_one G.rest) (inl (table_below C G), tt) F.grown;
      put = F.put;
      rows = F.rows;
      map = F.map;
      from = F.from;
      sequences = F.sequences;
      within = omega (arith, F.within, gathered.few);
    }

    pub gathered-finish : {w₂ files files₁ warnings warnings₁ : List ℕ} {r₂ : Result CollectedLines Refusal}
        → FinishesLines (done given) (length given) main supplementary w₁ w₂ files files₁ warnings warnings₁ c t warned r₂
        → FinishesLines x most main supplementary w w₂ files files₁ warnings warnings₁ c t warned r₂
    gathered-finish {w₂} {files} {files₁} {warnings} {warnings₁} {r₂} F = let few = gathered.few in record {
      is = finishes-by w₂ files files₁ warnings warnings₁ r₂ F.is;
      rest = but_trans (gathered-rest C G) (but_wide (stretches C G) F.rest
          (here (omega arith) (omega arith), (there (here (omega arith) (omega arith)), (there (there (here (omega arith) (omega arith))), tt))));
    }
