-- collect_lines of a unit with a header: the program's sequences, the unit's files, and the end.
use mathlib.Core.Path.{◌≡◌, sym, ap, subst, ◌∙◌}
use mathlib.Core.Logic.{inl, inr}
use mathlib.Core.List.{List, [], ◌∷◌}
use Prim.Native.Nat.{ℕ, ◌+◌, ◌*◌, ◌/◌, ◌≤◌}
use native.Mathlib.Omega.{arith}
use lib.ListN.{length}
use Rattle.std.specs.Prelude.{Option as Maybe, Result, Ok, Err}
use Rattle.std.specs.Option.{unwrap_or}
use Rattle.tlv.specs.declared.refusal.Refusal.{Refusal}
use Rattle.tlv.specs.Refusals.{number_of}
use Rattle.tlv.specs.Outcome.{Outcome, refused, done}
use Rattle.tlv.specs.Bytes.{le}
use Rattle.tlv.specs.Checked.{Placed}
use Rattle.tlv.specs.Model.{LineRow, header_of}
use Rattle.buffers.specs.declared.table.Stored.{Stored}
use Rattle.buffers.specs.Table.{KeptBut}
use Rattle.buffers.proofs.TableLaws.{here, there, but_of, but_one, but_trans}
use Rattle.buffers.proofs.RecordLaws.{records-length, records-but}
use Rattle.access.specs.Places.{unit_here}
use Rattle.line_program.specs.Program.{line_sequence_offsets}
use Rattle.line_program.specs.Scan.{CountWithin, Scanned, offsets_at}
use Rattle.lines.specs.Files.{Indexed, intern_header_files}
use Rattle.lines.specs.Lines.{Run, run_rows, Collected}
use Rattle.tlv.specs.declared.model.FileIndex.{FileIndex}
use Rattle.files.specs.declared.spans.FileUnit.{FileUnit}
use Rattle.files.specs.declared.sheets.Sheets.{Sheets}
use Rattle.files.specs.declared.store.StoredFiles.{StoredFiles}
use Rattle.files.specs.Pieces.{header_here, UnitPlaced}
use Rattle.files.specs.Store.{extent, table_of, FilesIn}
use Rattle.files.specs.Indices.{index_of, indices_of, indices_in}
use Rattle.files.proofs.UnitLaws.{unit-next}
use Rattle.files.proofs.UnnamedLaws.{unnamed}
use Rattle.files.proofs.GrownLaws.{files-kept, table_kept, grown-trans, grown-after}
use Rattle.files.specs.Interns.{map_extent}
use Rattle.rows.specs.Sizes.{entry_size, row_room}
use Rattle.machine.specs.LineRows.{line_rows, rows_most, collect_lines}
use Rattle.collect.specs.declared.collect.CollectedLines.{CollectedLines}
use Rattle.collect.specs.declared.interned.InternedUnit.{InternedUnit}
use Rattle.collect.specs.declared.convert.Conversion.{Conversion}
use Rattle.collect.specs.declared.source.UnitProgram.{UnitProgram}
use Rattle.collect.specs.Sources.{source_rows, most_rows, SourceFound, fault_or, FindsFault}
use Rattle.collect.specs.Converts.{ConversionIn}
use Rattle.collect.specs.Collects.{lines_extent, CollectsBy, CollectsLines}
use Rattle.collect.specs.Stages.{UnitFound, UnitRoom, UnitInterned, InternsUnit, ConversionOf, finish_rows, FinishesBy, FinishesLines}
use Rattle.collect.proofs.FrameLaws.{but_wide}
use Rattle.collect.proofs.UnitRowsLaws.{fault-number}
use Rattle.collect.proofs.HeaderPlaces.{header_is, unit-stands, unit-listed}
use Rattle.collect.proofs.CollectSteps.{source-here, most-here, header-there, collects-first, collects_program-refused, collects_files-refused, collects_end}
use Rattle.collect.proofs.UnitInternLaws.{indices-length}

module _ (d : Sheets) {program w payload : List ℕ} {p free : ℕ} {source : Maybe UnitProgram} {t : StoredFiles}
    (B : UnitFound d.main.now d.supplementary.now program w t p payload free) (F : SourceFound d.main.now (p + 21) payload program source) where
  abbrev main : List ℕ
  main = d.main.now

  abbrev supplementary : List ℕ
  supplementary = d.supplementary.now

  stands : UnitPlaced main p
  stands = unit-stands B.placed B.unit

  abbrev most : ℕ
  most = most_rows main (p + 21) source

  most_is : most ≡ rows_most (unit_here main p) program
  most_is = most-here B.placed B.unit B.header F

  pub found-placed : Placed main (p + 21)
  found-placed = unit-next stands

  -- its rows have room
  pub fault-room : free + row_room * most ≤ length w
  unfolding lines_extent
  fault-room = let a = B.room.room in let m = most_is in omega arith

  fault-fits : free + row_room * most ≤ free + lines_extent main p program
  unfolding lines_extent
  fault-fits = let m = most_is in omega arith

  -- their fault comes first
  fault-is : {w₁ w₂ : List ℕ} {n : ℕ} {f : Maybe Refusal} → FindsFault (source_rows main (p + 21) source) w₁ w₂ free most f
      → ((rows : List LineRow) → line_rows (unit_here main p) (header_here main p) program ≡ done rows → (run : Run) → run_rows rows 0 [] ≡ done run
      → collect_lines (unit_here main p) program (table_of main supplementary w t) ≡ refused n)
      → collect_lines (unit_here main p) program (table_of main supplementary w t) ≡ refused (fault_or f n)
  fault-is {n = n} X later =
      collects-first (unit_here main p) program (table_of main supplementary w t) (header_here main p) (header-there B.header) n later
      ∙ ap refused (sym (rw (source-here B.placed B.unit B.header F) at X.is n))

  fault-rest : {w₁ w₂ : List ℕ} {f : Maybe Refusal} → FindsFault (source_rows main (p + 21) source) w₁ w₂ free most f
      → KeptBut w w₁ ((t.base, extent t) ∷ (free, lines_extent main p program) ∷ [])
      → KeptBut w w₂ ((t.base, extent t) ∷ (free, lines_extent main p program) ∷ [])
  fault-rest X K = but_trans K (but_of X.rest (there (here (omega arith) fault-fits)))

  -- its program's sequences have room
  pub scan-room : free + length program / 3 * 8 ≤ length w
  unfolding lines_extent
  scan-room = let a = B.room.room in omega arith

  scanned-fits : free + length program / 3 * 8 ≤ free + lines_extent main p program
  unfolding lines_extent
  scanned-fits = omega arith

  scanned-rest : {w₁ : List ℕ} {r : Result ℕ Refusal} → Scanned program w w₁ free r (line_sequence_offsets (header_of payload) program)
      → KeptBut w w₁ ((t.base, extent t) ∷ (free, lines_extent main p program) ∷ [])
  scanned-rest S = but_of S.rest (there (here (omega arith) scanned-fits))

  -- its program is at fault, or its rows
  pub collected-fault : {w₁ w₂ files files' warnings warnings' : List ℕ} {warned : ℕ} {e : Refusal} {f : Maybe Refusal}
      → Scanned program w w₁ free (Err e) (line_sequence_offsets (header_of payload) program)
      → FindsFault (source_rows main (p + 21) source) w₁ w₂ free most f
      → CollectsLines main supplementary program w w₂ files files' warnings warnings' p t warned free (Err (unwrap_or f e))
  collected-fault {e = e} {f} S X =
      let o : line_sequence_offsets (header_here main p) program ≡ refused (number_of e) = rw (header_is B.header) (sym S.is) in
      record {
        is = rw (fault-number f e) (fault-is X (λ rows l run ran. collects_program-refused (unit_here main p) program (table_of main supplementary w t) (header_here main p)
            (header-there B.header) rows l run ran (number_of e) o));
        rest = fault-rest X (scanned-rest S);
      }

  module _ {w₁ : List ℕ} {k : ℕ}
      (S : Scanned program w w₁ free (Ok k) (line_sequence_offsets (header_of payload) program)) (size : length w₁ ≡ length w) where
    offsets-few : k * 8 ≤ length program / 3 * 8
    offsets-few = let few : CountWithin program (Ok k) = S.within in omega arith

    pub scanned-small : free + k * 8 ≤ length w
    unfolding lines_extent
    scanned-small = let a = offsets-few in let b = B.room.room in omega arith

    offsets_are : line_sequence_offsets (header_here main p) program ≡ done (offsets_at w₁ free k)
    offsets_are = rw (header_is B.header) (sym S.is)

    pub scanned-files : FilesIn main supplementary w₁ t
    scanned-files = files-kept B.files (but_one S.rest) (inl B.room.table, tt) size

    pub scanned-room : UnitRoom main w₁ t p (free + k * 8)
    unfolding lines_extent
    scanned-room =
        let a = offsets-few in
        let b = B.room.room in
        let c = B.room.table in
        record { table = omega arith; room = omega arith }

    unit-fits : free + k * 8 + map_extent main p ≤ free + lines_extent main p program
    unfolding lines_extent
    unit-fits = let a = offsets-few in omega arith

    table-scanned : table_of main supplementary w₁ t ≡ table_of main supplementary w t
    table-scanned = table_kept B.files (but_one S.rest) (inl B.room.table, tt)

    interned_rest : {w₂ files files₁ : List ℕ} {r : Result InternedUnit Refusal} → InternsUnit main supplementary w₁ w₂ files files₁ p t (free + k * 8) r
        → KeptBut w w₂ ((t.base, extent t) ∷ (free, lines_extent main p program) ∷ [])
    interned_rest I =
        let unit : free + k * 8 + map_extent main p ≤ free + lines_extent main p program = unit-fits in
        but_trans (scanned-rest S) (but_wide _ I.rest (here (omega arith) (omega arith), (there (here (omega arith) (omega arith)), tt)))

    -- a file of its header has no number, or its rows are at fault
    pub collected-unnumbered : {w₂ w₃ files files₀ files₁ files' warnings warnings' : List ℕ} {warned : ℕ} {e : Refusal} {f : Maybe Refusal}
        → InternsUnit main supplementary w₁ w₂ files files₁ p t (free + k * 8) (Err e)
        → FindsFault (source_rows main (p + 21) source) w₂ w₃ free most f
        → CollectsLines main supplementary program w w₃ files₀ files' warnings warnings' p t warned free (Err (unwrap_or f e))
    collected-unnumbered {e = e} {f} I X =
        let i : intern_header_files (unit_here main p) (header_here main p) (table_of main supplementary w t) ≡ refused (number_of e)
        = rw (← table-scanned) (sym I.is) in
        record {
          is = rw (fault-number f e) (fault-is X (λ rows l run ran. collects_files-refused (unit_here main p) program (table_of main supplementary w t) (header_here main p)
              (header-there B.header) rows l run ran (offsets_at w₁ free k) offsets_are (number_of e) i));
          rest = fault-rest X (interned_rest I);
        }

    module _ {w₂ files files₁ : List ℕ} {u : FileUnit} {is : Stored FileIndex} {t' : StoredFiles}
        (I : InternsUnit main supplementary w₁ w₂ files files₁ p t (free + k * 8) (Ok (record { unit = u; indices = is; table = t' }))) where
      interned : UnitInterned main supplementary w₁ w₂ files files₁ p t (free + k * 8) u is t'
      interned = I.after

      files-are : intern_header_files (unit_here main p) (header_here main p) (table_of main supplementary w t) ≡ done (record { table = table_of main supplementary w₂ t'; indices = indices_in w₂ is })
      files-are = rw (← table-scanned) (sym I.is)

      pub interned-placed : Placed main (u.place + 21)
      interned-placed = rw interned.place (unit-next stands)

      interned-room : is.base + is.count * 5 + row_room * most + entry_size ≤ free + lines_extent main p program
      unfolding lines_extent
      interned-room =
          let a = offsets-few in
          let b = interned.map in
          let c = interned.count in
          let d = interned.few in
          let g = most_is in
          omega arith

      pub interned-fits : is.base + is.count * 5 ≤ length w
      interned-fits = let a = interned-room in let b = B.room.room in omega arith

      map-length : is.count ≡ length (indices_in w₂ is)
      unfolding indices_of
      map-length = sym (records-length index_of 5 w₂ is.base is.count)

      module _ {cv : Conversion} {offsets : Stored ℕ} (from : offsets.base ≡ free) (many : offsets.count ≡ k) (M : ConversionOf d u is offsets cv) where
        made : Conversion
        made = record { sheets = d; unit = u; zero = cv.zero; indices = is; offsets = offsets; lines = is.base + is.count * 5 }

        place_is : cv.unit.place ≡ p
        place_is = ap (λ (x : Conversion). x.unit.place) M.is ∙ interned.place

        sheet-is : cv.sheets.main.now ≡ main
        sheet-is = ap (λ (x : Conversion). x.sheets.main.now) M.is

        conversion-made : (warned : ℕ) → length w₂ ≡ length w → ConversionIn main supplementary w₂ made (record { table = t'; count = 0; warned = warned })
        unfolding made
        conversion-made warned last =
            let i : Indexed = record { table = table_of main supplementary w₂ t'; indices = indices_in w₂ is } in
            let base = interned.grown.base in
            let room = interned.grown.room in
            let below = B.room.table in
            let d = interned.directories in
            let m = interned.map in
            let all = interned-room in
            let most = B.room.room in
            record {
              placed = rw interned.place stands;
              files = interned.grown.holds;
              source = interned.source;
              unit = interned.described;
              listed = rw interned.place (unit-listed B.placed B.unit supplementary B.header);
              zero = M.zero;
              unnamed = rw interned.place (record { unnamed = unnamed (unit_here main p) (header_here main p) (table_of main supplementary w t) i files-are });
              all = rw interned.place (map-length ∙ indices-length (unit_here main p) (header_here main p) (table_of main supplementary w t) i files-are);
              table = omega arith;
              offsets = omega arith;
              directories = omega arith;
              indices = omega arith;
              lines = omega arith;
            }

        pub conversion-in : (warned : ℕ) → length w₂ ≡ length w → ConversionIn cv.sheets.main.now cv.sheets.supplementary.now w₂ cv (record { table = t'; count = 0; warned = warned })
        unfolding made
        conversion-in warned last = subst (λ (x : Conversion). ConversionIn x.sheets.main.now x.sheets.supplementary.now w₂ x (record { table = t'; count = 0; warned = warned })) (sym M.is) (conversion-made warned last)

        pub conversion-fits : length w₂ ≡ length w → cv.lines + row_room * most_rows cv.sheets.main.now (cv.unit.place + 21) source + entry_size ≤ length w₂
        conversion-fits last =
            let l : cv.lines ≡ is.base + is.count * 5 = ap (λ (x : Conversion). x.lines) M.is in
            let all = interned-room in
            let room = B.room.room in
            rw (place_is, sheet-is) (omega arith)

        offsets-kept : offsets_at w₂ offsets.base offsets.count ≡ offsets_at w₁ free k
        offsets-kept = let below = B.room.table in rw (from, many) (records-but le 8 free k I.rest (inr (omega arith), (inl (omega arith), tt)))

        end_is : (y : Outcome Collected) → finish_rows (source_rows main (u.place + 21) source) main supplementary w₂ made t' ≡ y
            → collect_lines (unit_here main p) program (table_of main supplementary w t) ≡ y
        unfolding made
        end_is y f =
            collects_end (unit_here main p) program (table_of main supplementary w t) (header_here main p) (header-there B.header) (offsets_at w₁ free k)
            offsets_are (record { table = table_of main supplementary w₂ t'; indices = indices_in w₂ is }) files-are y
            (rw (interned.place, offsets-kept, source-here B.placed B.unit B.header F) at f)

        abbrev end-rows : Outcome (List LineRow)
        end-rows = source_rows main (u.place + 21) source

        abbrev end-most : ℕ
        end-most = most_rows main (u.place + 21) source

        end_rest : {w₃ files₂ warnings warnings' : List ℕ} {warned : ℕ} {r₃ : Result CollectedLines Refusal}
            → FinishesLines end-rows end-most main supplementary w₂ w₃ files₁ files₂ warnings warnings' made t' warned r₃
            → KeptBut w w₃ ((t.base, extent t) ∷ (free, lines_extent main p program) ∷ [])
        unfolding made
        end_rest E =
            let base = interned.grown.base in
            let room = interned.grown.room in
            let fits = interned-room in
            let map = interned.map in
            but_trans (interned_rest I) (but_wide _ (rw interned.place at E.rest)
            (here (omega arith) (omega arith), (there (here (omega arith) (omega arith)), (there (here (omega arith) (omega arith)), tt))))

        by_end : (w₃ files₂ warnings warnings' : List ℕ) (warned : ℕ) (r₃ : Result CollectedLines Refusal)
            → FinishesBy end-rows end-most main supplementary w₂ w₃ files₁ files₂ warnings warnings' made t' warned r₃
            → KeptBut w w₃ ((t.base, extent t) ∷ (free, lines_extent main p program) ∷ [])
            → CollectsBy main supplementary program w w₃ files files₂ warnings warnings' p t warned free r₃
        unfolding made
        by_end w₃ files₂ warnings warnings' warned (Err e) E K = end_is (refused (number_of e)) E
        by_end w₃ files₂ warnings warnings' warned (Ok r) E K =
            let fits = interned-room in
            let map : is.base ≡ free + k * 8 + u.directories.count * 8 = interned.map in
            let eb : r.indices.base ≡ is.base = ap (λ (x : Stored FileIndex). x.base) E.map in
            let ec : r.indices.count ≡ is.count = ap (λ (x : Stored FileIndex). x.count) E.map in
            let from = E.from in
            let within = rw interned.place at E.within in
            record {
              new = E.new;
              collected = end_is _ E.finished;
              grown = grown-after B.files (but_one S.rest) (inl B.room.table, tt) (grown-trans interned.grown E.grown);
              put = E.put;
              rows = E.rows;
              from = omega arith;
              indices = omega arith;
              sequences = E.sequences;
              within = omega arith;
              rest = K;
            }

        pub collected-end : {w₃ files₂ warnings warnings' : List ℕ} {warned : ℕ} {r₃ : Result CollectedLines Refusal}
            → FinishesLines (source_rows cv.sheets.main.now (cv.unit.place + 21) source) (most_rows cv.sheets.main.now (cv.unit.place + 21) source)
            cv.sheets.main.now cv.sheets.supplementary.now
            w₂ w₃ files₁ files₂ warnings warnings' cv t' warned r₃
            → CollectsLines main supplementary program w w₃ files files₂ warnings warnings' p t warned free r₃
        unfolding made
        collected-end {w₃} {files₂} {warnings} {warnings'} {warned} {r₃} E =
            let L = subst (λ (x : Conversion). FinishesLines (source_rows x.sheets.main.now (x.unit.place + 21) source)
            (most_rows x.sheets.main.now (x.unit.place + 21) source) x.sheets.main.now x.sheets.supplementary.now w₂ w₃ files₁ files₂ warnings warnings' x t' warned r₃) M.is E in
            let K = end_rest L in
            record { is = by_end w₃ files₂ warnings warnings' warned r₃ L.is K; rest = K }
