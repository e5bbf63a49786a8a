-- The import of a unit from a state: its lines are collected, its context is made, its subprograms are imported.
use mathlib.Core.Path.{◌≡◌, sym, subst, ◌∙◌}
use mathlib.Core.Bool.{Bool}
use mathlib.Core.Logic.{inl}
use mathlib.Core.List.{List, ◌++◌, append_assoc}
use mathlib.Core.Option.{Option, none, some}
use Prim.Native.Nat.{ℕ, ◌+◌, ◌≤◌}
use native.Mathlib.Omega.{arith}
use lib.ListN.{length, length-take, length-drop}
use Rattle.std.specs.Prelude.{Result, Ok, Err}
use Rattle.tlv.specs.declared.refusal.Refusal.{Refusal}
use Rattle.tlv.specs.Outcome.{◌>>=◌}
use Rattle.tlv.specs.Refusals.{number_of, status_of}
use Rattle.tlv.proofs.AnswerLaws.{numbered}
use Rattle.tlv.specs.Model.{CompilationUnit, ProgramPart, LineEncoding, program_part, program_of}
use Rattle.buffers.specs.Buffer.{top}
use Rattle.buffers.specs.Table.{KeptBut}
use Rattle.buffers.specs.Output.{Function, Warning}
use Rattle.buffers.proofs.BufferLaws.{◌then◌, put_as}
use Rattle.buffers.proofs.RecordLaws.{records-kept}
use Rattle.buffers.proofs.TableLaws.{but_one, but_of, but_trans, here}
use Rattle.access.specs.Places.{unit_here}
use Rattle.tlv.specs.declared.model.FileIndex.{FileIndex}
use Rattle.buffers.specs.declared.table.Stored.{Stored}
use Rattle.files.specs.declared.store.StoredFiles.{StoredFiles}
use Rattle.files.specs.Indices.{index_of, indices_of}
use Rattle.files.specs.Store.{extent, table_of}
use Rattle.files.proofs.GrownLaws.{table_kept, grown-kept, grown-trans}
use Rattle.rows.specs.declared.unit_lines.StoredLines.{StoredLines}
use Rattle.rows.proofs.StoredLaws.{lines-kept, ranges-kept}
use Rattle.machine.specs.LineRows.{most_by, rows_most}
use Rattle.collect.specs.declared.collect.CollectedLines.{CollectedLines}
use Rattle.collect.specs.Collects.{UnitIn, lines_in, lines_extent, LinesRoom, CollectedIn, CollectsLines}
use Rattle.collect.proofs.FrameLaws.{but_wide}
use Rattle.imports.specs.Import.{import_unit_details, import_unit}
use Rattle.dies.specs.Answers.{value_or}
use Rattle.dies.specs.Details.{dwarf_with}
use Rattle.dies.proofs.NodeStepLaws.{warnings-append}
use Rattle.subprograms.specs.declared.model.ImportContext.{ImportContext}
use Rattle.subprograms.specs.declared.model.ImportState.{ImportState}
use Rattle.subprograms.specs.Stats.{stats_of}
use Rattle.subprograms.specs.Contexts.{main_of, supplementary_of, context_with, context_now, ContextIn, touched}
use Rattle.subprograms.specs.Steps.{sheets, memory, Grows, Imports, state_of}
use Rattle.subprograms.proofs.StepLaws.{grows_no}
use Rattle.checks.specs.declared.layout.Layout.{Layout}
use Rattle.checks.specs.declared.layout.UnitLayout.{UnitLayout}
use Rattle.checks.specs.Layout.{UnitLaid}
use Rattle.dwarf.specs.declared.tables.Indexes.{Indexes}
use Rattle.dwarf.specs.Tables.{TablesIn, LinesLaid, MakesContext}
use Rattle.dwarf.specs.Units.{Ready, above_tables}

-- a shorter program's lines have room where the whole one's have
part_room : (main : List ℕ) (place : ℕ) (part program : List ℕ) → length part ≤ length program → lines_extent main place part ≤ lines_extent main place program
unfolding lines_extent rows_most
part_room main place part program h = let a = fewer (unit_here main place).encoding in omega arith
  where
    fewer : (o : Option LineEncoding) → most_by (unit_here main place) part o ≤ most_by (unit_here main place) program o
    fewer none = omega arith
    fewer (some e) = h

-- what is so of four slices is so of the same
four : (P : List ℕ → List ℕ → List ℕ → List ℕ → Type 0) {a a' b b' c c' d d' : List ℕ} → a ≡ a' → b ≡ b' → c ≡ c' → d ≡ d' → P a b c d → P a' b' c' d'
four P {a} {a'} {b} {b'} {c} {c'} {d} {d'} ea eb ec ed x =
    subst (λ (s : List ℕ). P a' b' c' s) ed
    (subst (λ (s : List ℕ). P a' b' s d) ec
    (subst (λ (s : List ℕ). P a' s c d) eb
    (subst (λ (s : List ℕ). P s b c d) ea x)))

-- a unit's part of a program is no longer than it
pub part-short : (u : CompilationUnit) (program part : List ℕ) → part ≡ program_of u program → length part ≤ length program
unfolding program_of
part-short u program part e = rw e (go u.part)
  where
    go : (o : Option ProgramPart) → length (program_part o program) ≤ length program
    go none = omega arith
    go (some x) = rw (length-take, length-drop) (omega arith)

module _ {main supplementary program lists w : List ℕ} {l : Layout} {p : UnitLayout} {x : Indexes} {place : ℕ} {st : ImportState} (U : UnitIn main place)
    (P : UnitLaid main supplementary program (length w) l place p) (T : TablesIn main supplementary program lists w l x) (R : Ready main supplementary w l st) where
  module _ (part : List ℕ) (short : length part ≤ length program) where
    -- the lines of the part end below the executable ranges
    lines_end : l.lines + lines_extent main place part ≤ p.text
    lines_end = let a = P.text in let b = part_room main place part program short in omega arith

    -- all of the unit's parts lie within the slice
    unit-end : p.spans ≤ length w
    unit-end = let a = P.ranges in let b = P.stack in let c = P.sites in let d = P.keys in let e = P.room in omega arith

    text-within : p.text ≤ length w
    text-within = let a = P.spans in let b = unit-end in omega arith

    pub lines-room : LinesRoom main w part st.table place l.lines
    lines-room = record {
      table = R.below;
      room = let a = lines_end in let b = text-within in omega arith;
    }

    module _ {w₁ f f₁ u u₁ : List ℕ} {c : Result CollectedLines Refusal} (K : CollectsLines main supplementary part w w₁ f f₁ u u₁ place st.table st.warned l.lines c) where
      -- above the tables of units and entries
      low : KeptBut w w₁ (above_tables l (length w))
      low =
          let a = lines_end in
          let b = text-within in
          let d = R.below in
          let e = R.above in
          but_wide (above_tables l (length w)) K.rest (here (omega arith) (omega arith), (here (omega arith) (omega arith), tt))

      pub collected-low : KeptBut w w₁ (above_tables l (length w))
      collected-low = low

      module _ {lines : StoredLines} {indices : Stored FileIndex} {t₁ : StoredFiles} {warned : ℕ}
          (C : CollectedIn main supplementary part w w₁ f f₁ u u₁ place st.table st.warned l.lines lines indices t₁ warned) where
        grown-above : l.files ≤ t₁.base
        grown-above = let a = C.grown.base in let c = R.above in omega arith

        grown-below : t₁.base + extent t₁ ≤ l.lines
        grown-below = let a = C.grown.base in let b = C.grown.room in let c = R.below in omega arith

        pub lines-laid : LinesLaid w₁ l p lines indices
        lines-laid = record {
          rows = C.rows;
          from = C.from;
          map = C.indices;
          sequences = C.sequences;
          within = let a = C.within in let b = lines_end in omega arith;
        }

        pub warned-fits : warned ≤ top
        warned-fits = let a = C.put.place in omega arith

        module _ {addresses w₂ : List ℕ} {inlines call_sites : Bool} {q : ImportContext}
            (M : MakesContext main supplementary lists addresses w₁ w₂ l p place lines indices inlines call_sites q) where
          pub context-stands : ContextIn main supplementary w₂ q t₁
          context-stands = M.context t₁ grown-above grown-below C.grown.holds

          -- .. in the sheets that it holds
          pub context-holds : ContextIn (main_of q) (supplementary_of q) w₂ q t₁
          context-holds =
              subst (λ (s : List ℕ). ContextIn (main_of q) s w₂ q t₁) (sym M.supplementary-is)
              (subst (λ (s : List ℕ). ContextIn s supplementary w₂ q t₁) (sym M.main-is) context-stands)

          -- all of the lines stands below the text
          lines_same : lines_in w₂ lines indices ≡ lines_in w₁ lines indices
          unfolding lines_in indices_of
          lines_same =
              let a = C.within in
              let b = lines_end in
              let d = C.rows.lines in
              let e = C.rows.sequences in
              let g = C.indices in
              λ i. record {
                entries = lines-kept lines.lines.base lines.lines.count M.rest (inl (omega arith)) i;
                files = records-kept index_of 5 indices.base indices.count M.rest (inl (omega arith)) i;
                sequences = ranges-kept lines.sequences.base lines.sequences.count M.rest (inl (omega arith)) i;
              }

          lines_are : lines_in w₂ q.lines q.context.indices ≡ lines_in w₁ lines indices
          lines_are = (λ i. lines_in w₂ (M.lines-is i) (M.indices-is i)) ∙ lines_same

          -- the file table stands below the lines
          table-clear : t₁.base + extent t₁ ≤ p.text
          table-clear = let a = lines_end in let b = grown-below in omega arith

          table_same : table_of main supplementary w₂ t₁ ≡ table_of main supplementary w₁ t₁
          table_same = table_kept C.grown.holds (but_one M.rest) (inl table-clear, tt)

          module _ (same-part : part ≡ program_of (unit_here main place) program) where
            -- the definition goes on from the context that was made
            imported : (rs : List Function) (ws : List Warning)
                → import_unit (dwarf_with main supplementary lists addresses) (unit_here main place) program inlines call_sites (state_of main supplementary w st rs ws)
                ≡ import_unit_details (context_with main supplementary lists addresses w₂ q) (unit_here main q.context.unit).entries
                (record { table = table_of main supplementary w₂ t₁; records = rs; warnings = ws ++ C.new; stats = stats_of st.stats })
            unfolding import_unit ◌>>=◌
            imported rs ws =
                rw (sym same-part, C.collected)
                (sym (λ i. import_unit_details
                (record {
                  dwarf = dwarf_with main supplementary lists addresses;
                  unit = unit_here main (M.unit-is i);
                  lines = lines_are i;
                  include_inlines = M.inlines-is i;
                  include_call_sites = M.call_sites-is i;
                })
                (unit_here main (M.unit-is i)).entries
                (record { table = table_same i; records = rs; warnings = ws ++ C.new; stats = stats_of st.stats })))

            module _ (fits : (st.at ≤ top) × (warned ≤ top)) where
              abbrev begun : ImportState
              begun = record { table = t₁; at = st.at; warned = warned; stats = st.stats; past = st.past; within = fits }

              abbrev Imported : List ℕ → List ℕ → List ℕ → List ℕ → List ℕ → ℕ → ImportState → Type 0
              Imported t w₃ t₃ f₃ u₃ n r =
                  Imports (import_unit_details (context_with main supplementary lists addresses w₂ q) (unit_here main q.context.unit).entries) (sheets main supplementary) q
                  (memory w₂ t f₁ u₁) begun (memory w₃ t₃ f₃ u₃) n r

              abbrev Done : List ℕ → List ℕ → List ℕ → List ℕ → List ℕ → ℕ → ImportState → Type 0
              Done t w₃ t₃ f₃ u₃ n r =
                  Grows (import_unit (dwarf_with main supplementary lists addresses) (unit_here main place) program inlines call_sites) (sheets main supplementary)
                  (above_tables l (length w)) (memory w t f u) st (memory w₃ t₃ f₃ u₃) n r

              module _ (size₁ : length w₁ ≡ length w) (size₂ : length w₂ ≡ length w₁) where
                -- what the subprograms' import writes lies beside the tables
                beside : {w₃ : List ℕ} → KeptBut w₂ w₃ (touched main supplementary q t₁) → KeptBut w₂ w₃ (above_tables l (length w))
                unfolding touched
                beside {w₃} k =
                    let O = context-stands.ordered in
                    let a = grown-above in
                    let c = grown-below in
                    let b = table-clear in
                    let d = text-within in
                    let e = O.buffer in
                    let g = O.text in
                    let h = O.spans in
                    let n = O.table in
                    let n₂ = O.indices in
                    let n₃ = O.lines in
                    let n₄ = O.sequences in
                    let z = context-stands.tables.keys.room in
                    let y = O.ranges in
                    let y₂ = O.stack in
                    let y₃ = O.sites in
                    but_wide (above_tables l (length w)) k
                    (here (omega arith) (omega arith), (here (omega arith) (omega arith), (here (omega arith) (omega arith), (here (omega arith) (omega arith), tt))))

                module _ {w₃ t t₃ f₃ u₃ : List ℕ} where
                  unit-done : {r : ImportState} → Imported t w₃ t₃ f₃ u₃ 0 r → Done t w₃ t₃ f₃ u₃ 0 r
                  unit-done I = record {
                    records = I.records;
                    new = C.new ++ I.new;
                    laid = I.laid;
                    past = I.past;
                    warned = λ e. put_as (warnings-append C.new I.new) (C.put then I.warned e);
                    grown = λ e. grown-trans (grown-kept C.grown (but_one M.rest) (inl table-clear, tt) size₂) (I.grown e);
                    kept = λ e. but_trans low (but_trans (let a = P.spans in let b = unit-end in let d = lines_end in let e = T.laid.lines in but_of M.rest (here (omega arith) (omega arith))) (beside (I.kept e)));
                    ok = λ e rs ws. imported rs ws ∙ I.ok e rs (ws ++ C.new) ∙ rw (append_assoc ws C.new I.new);
                    no = λ e rs ws. imported rs ws ∙ I.no e rs (ws ++ C.new);
                  }

                  unit-goes : (x : Result ImportState Refusal) → Imported t w₃ t₃ f₃ u₃ (status_of x) (value_or begun x) → Done t w₃ t₃ f₃ u₃ (status_of x) (value_or st x)
                  unit-goes (Ok r) I = unit-done I
                  unit-goes (Err e) I = grows_no (numbered e) (λ rs ws. imported rs ws ∙ I.no (numbered e) rs (ws ++ C.new))

                  -- .. by what the subprograms' import says of the context
                  pub unit-grows : (x : Result ImportState Refusal)
                      → Imports (import_unit_details (context_now w₂ q) (unit_here (main_of q) q.context.unit).entries) (sheets (main_of q) (supplementary_of q)) q
                      (memory w₂ t f₁ u₁) begun (memory w₃ t₃ f₃ u₃) (status_of x) (value_or begun x)
                      → Done t w₃ t₃ f₃ u₃ (status_of x) (value_or st x)
                  unit-grows x I =
                      unit-goes x
                      (four
                      (λ a b c d. Imports (import_unit_details (context_with a b c d w₂ q) (unit_here a q.context.unit).entries) (sheets a b) q
                      (memory w₂ t f₁ u₁) begun (memory w₃ t₃ f₃ u₃) (status_of x) (value_or begun x))
                      M.main-is M.supplementary-is M.lists_is M.addresses-is I)

    -- ---- its lines are refused

    module _ {w₁ f f₁ u u₁ : List ℕ} {e : Refusal} (K : CollectsLines main supplementary part w w₁ f f₁ u u₁ place st.table st.warned l.lines (Err e))
        (same-part : part ≡ program_of (unit_here main place) program) where
      pub unit-refused : (addresses : List ℕ) (inlines call_sites : Bool) {t t₃ f₃ u₃ w₃ : List ℕ}
          → Grows (import_unit (dwarf_with main supplementary lists addresses) (unit_here main place) program inlines call_sites) (sheets main supplementary) (above_tables l (length w))
          (memory w t f u) st (memory w₃ t₃ f₃ u₃) (number_of e) st
      unfolding import_unit ◌>>=◌
      unit-refused addresses inlines call_sites = grows_no (numbered e) (λ rs ws. rw (sym same-part, K.is))
