-- The record of a live range: its head, its rows, and its nodes and call sites, one after the other.
use mathlib.Core.Path.{◌≡◌, refl, ap, sym, ◌∙◌}
use mathlib.Core.Logic.{inl}
use mathlib.Core.List.{List, [], ◌∷◌, ◌++◌, append-nil, append_assoc}
use mathlib.Core.Bool.{Bool, ◌||◌}
use Prim.Native.Nat.{ℕ, ◌+◌, ◌≤◌}
use native.Mathlib.Omega.{arith}
use lib.ListN.{length}
use Rattle.tlv.specs.declared.model.AddressRange.{AddressRange}
use Rattle.tlv.specs.declared.model.LineEntry.{LineEntry}
use Rattle.tlv.specs.Outcome.{Outcome, refused, done, ◌>>=◌}
use Rattle.tlv.specs.Fields.{encode}
use Rattle.tlv.specs.Model.{Entry}
use Rattle.buffers.specs.Buffer.{top, Put}
use Rattle.buffers.specs.Table.{Clear}
use Rattle.buffers.specs.Output.{Function, Warning, function_payload, each_of, node_bytes, site_payload, function_bytes, records_bytes}
use Rattle.buffers.proofs.BufferLaws.{◌then◌, put_as}
use Rattle.buffers.proofs.TableLaws.{but_one, but_trans}
use Rattle.access.specs.Places.{entry_here}
use Rattle.lines.specs.Files.{FileTable}
use Rattle.files.specs.Store.{extent, table_of}
use Rattle.files.proofs.GrownLaws.{table_kept, grown-kept}
use Rattle.declarations.proofs.DeclareLaws.{warnings-append}
use Rattle.imports.specs.Tree.{Descendants, extract_subprogram_details}
use Rattle.imports.specs.Import.{State, ConversionStats, ImportContext, rooted, detail_context, add_function, import_range}
use Rattle.dies.specs.Details.{detail_bytes}
use Rattle.dies.specs.Past.{is_past}
use Rattle.subprograms.specs.declared.function_lines.FoundLines.{FoundLines}
use Rattle.subprograms.specs.declared.model.ImportContext.{ImportContext as Context}
use Rattle.subprograms.specs.declared.model.ImportState.{ImportState}
use Rattle.subprograms.specs.Stats.{stats_of, with_function}
use Rattle.subprograms.specs.Contexts.{context_with, ContextIn, walk_extent}
use Rattle.subprograms.specs.Steps.{sheets, memory, FunctionLines, function_lines, lines_bytes, FindsLines, ImportsDetails, Imports, state_of, below_entry}
use Rattle.subprograms.proofs.ContextLaws.{context-kept, context-same, touched-walk}
use Rattle.subprograms.proofs.LaidPastLaws.{head-length, past-both}
use Rattle.subprograms.proofs.StepLaws.{grows_no}

-- ---- the definition, by its two parts

-- the record that rows and descendants make
abbrev record_of : List ℕ → AddressRange → List LineEntry → Descendants → Function
record_of name r rows x = record { range = r; name = name; lines = rows; inline = rooted name r x.inlines; call_sites = x.call_sites }

-- what follows the descendants, and what follows the rows
abbrev range_end : List ℕ → AddressRange → State → FunctionLines → Descendants → Outcome State
range_end name r s l x = done (add_function (record_of name r l.rows x) (length x.inlines)
    (record { table = l.table; records = s.records; warnings = l.warnings ++ x.warnings; stats = s.stats }))

abbrev range_then : ImportContext → List Entry → List ℕ → AddressRange → State → FunctionLines → Outcome State
range_then q below name r s l = extract_subprogram_details (detail_context q r) below >>= range_end name r s l

-- steps from which a value is made for what follows
module _ {B C D : Type 0} (g : B → C) (k : C → Outcome D) where
  make-then : (y : Outcome B) → (y >>= λ b. k (g b)) ≡ ((y >>= λ b. done (g b)) >>= k)
  unfolding ◌>>=◌
  make-then (refused n) = refl
  make-then (done b) = refl

  make-then-both : {A : Type 0} (x : Outcome A) (f : A → Outcome B) → (x >>= λ a. f a >>= λ b. k (g b)) ≡ ((x >>= λ a. f a >>= λ b. done (g b)) >>= k)
  unfolding ◌>>=◌
  make-then-both (refused n) f = refl
  make-then-both (done a) f = make-then (f a)

pub range-parts : (q : ImportContext) (e : Entry) (below : List Entry) (name : List ℕ) (r : AddressRange) (s : State)
    → import_range q e below name r s ≡ (function_lines q e r s.table s.warnings >>= range_then q below name r s)
unfolding import_range function_lines
range-parts q e below name r s = make-then-both _ (range_then q below name r s) _ _

-- a state by its parts
state-as : {table table₁ : FileTable} (rs : List Function) {ws ws₁ : List Warning} {n n₁ : ConversionStats} → table ≡ table₁ → ws ≡ ws₁ → n ≡ n₁
    → ◌≡◌ {A = State} (record { table = table; records = rs; warnings = ws; stats = n }) (record { table = table₁; records = rs; warnings = ws₁; stats = n₁ })
state-as rs e g h = λ i. record { table = e i; records = rs; warnings = g i; stats = h i }

-- the bytes of one record: its head, its rows, the rest
record-bytes : (name : List ℕ) (r : AddressRange) (rows : List LineEntry) (x : Descendants)
    → records_bytes (record_of name r rows x ∷ []) ≡ encode 0x41 (function_payload r name) ++ lines_bytes rows ++ detail_bytes name r x
unfolding records_bytes each_of function_bytes
record-bytes name r rows x =
    append-nil _ ∙ append_assoc (encode 0x41 (function_payload r name) ++ lines_bytes rows) (each_of node_bytes (rooted name r x.inlines)) (each_of (λ s. encode 0x45 (site_payload s)) x.call_sites)

-- ---- in memory

module _ {main supplementary w w₁ : List ℕ} (lists addresses : List ℕ) {q : Context} {t₁ t₂ f f₁ u u₁ : List ℕ} (st : ImportState) (p : ℕ) (r : AddressRange) (name : List ℕ) {headed : ℕ} {over : Bool} {fits : (headed ≤ top) × (st.warned ≤ top)} {n : ℕ} {l : FoundLines}
    (B : over ≡ (st.past || is_past st.at (19 + length name)))
    (C : ContextIn main supplementary w q st.table)
    (L : FindsLines (function_lines (context_with main supplementary lists addresses w q) (entry_here main p) r) main supplementary q
    w t₁ f u (record { table = st.table; at = headed; warned = st.warned; stats = st.stats; past = over; within = fits }) w₁ t₂ f₁ u₁ n l) where
  -- the tables stand for the walk
  pub lined-context : n ≡ 0 → length w₁ ≡ length w → ContextIn main supplementary w₁ q l.state.table
  lined-context z size = let G = L.grown z in context-kept C (L.kept z) size G.base G.room G.holds

  module _ {t : List ℕ} (H : Put st.at (encode 0x41 (function_payload r name)) t t₁ headed) where
    -- the rows are refused
    pub range-unlined : (n ≡ 0 → ⊥) → Imports (import_range (context_with main supplementary lists addresses w q) (entry_here main p) (below_entry main p) name r) (sheets main supplementary) q (memory w t f u) st (memory w₁ t₂ f₁ u₁) n st
    unfolding ◌>>=◌
    range-unlined z =
        grows_no z λ rs ws.
        let s = state_of main supplementary w st rs ws in
        range-parts (context_with main supplementary lists addresses w q) (entry_here main p) (below_entry main p) name r s
        ∙ ap (λ (o : Outcome FunctionLines). o >>= range_then (context_with main supplementary lists addresses w q) (below_entry main p) name r s) (L.no z ws)

    module _ {w₂ t₃ u₂ : List ℕ} {m : ℕ} {r' : ImportState} (z : n ≡ 0) (size : length w₁ ≡ length w) (size₂ : length w₂ ≡ length w₁)
        (D : ImportsDetails (extract_subprogram_details (detail_context (context_with main supplementary lists addresses w₁ q) r) (below_entry main p)) main supplementary q name r l.count
        w₁ t₂ u₁ l.state w₂ t₃ u₂ m r') where
      -- the file table stands below the walk's part
      table_below : Clear l.state.table.base (extent l.state.table) ((q.context.ranges, walk_extent main supplementary q) ∷ [])
      table_below =
          let o = (lined-context z size).ordered in
          (inl (omega (arith, o.table, o.indices, o.lines, o.sequences, o.buffer, o.text, o.spans)), tt)

      -- the rows that were found behind warnings ws
      abbrev lines_found : List Warning → FunctionLines
      lines_found ws = record { rows = L.rows; table = table_of main supplementary w₁ l.state.table; warnings = ws ++ L.new }

      -- the definition after the rows
      after-rows : (rs : List Function) (ws : List Warning) → import_range (context_with main supplementary lists addresses w q) (entry_here main p) (below_entry main p) name r (state_of main supplementary w st rs ws)
          ≡ range_then (context_with main supplementary lists addresses w₁ q) (below_entry main p) name r (state_of main supplementary w st rs ws) (lines_found ws)
      unfolding ◌>>=◌
      after-rows rs ws =
          let s = state_of main supplementary w st rs ws in
          range-parts (context_with main supplementary lists addresses w q) (entry_here main p) (below_entry main p) name r s
          ∙ ap (λ (o : Outcome FunctionLines). o >>= range_then (context_with main supplementary lists addresses w q) (below_entry main p) name r s) (L.ok z ws)
          ∙ ap (λ (k : ImportContext). range_then k (below_entry main p) name r s (lines_found ws)) (sym (context-same C (L.kept z) lists addresses))

      -- and after the walk
      ends_as : m ≡ 0 → (rs : List Function) (ws : List Warning) → import_range (context_with main supplementary lists addresses w q) (entry_here main p) (below_entry main p) name r (state_of main supplementary w st rs ws)
          ≡ done (state_of main supplementary w₂ r' (rs ++ (record_of name r L.rows D.descendants ∷ [])) (ws ++ (L.new ++ D.descendants.warnings)))
      unfolding ◌>>=◌ add_function
      ends_as k rs ws =
          let x = D.descendants in
          let table : table_of main supplementary w₂ r'.table ≡ table_of main supplementary w₁ l.state.table =
          ap (table_of main supplementary w₂) D.table ∙ table_kept (L.grown z).holds (but_one D.rest) table_below in
          let stats : stats_of r'.stats ≡ with_function (length L.rows) (length x.inlines) (stats_of st.stats) =
          D.counted k ∙ (λ i. with_function (L.count z i) (length x.inlines) (stats_of (L.stats z i))) in
          after-rows rs ws
          ∙ ap (λ (o : Outcome Descendants). o >>= range_end name r (state_of main supplementary w st rs ws) (lines_found ws)) (D.ok k)
          ∙ ap done (state-as (rs ++ (record_of name r L.rows x ∷ [])) (sym table) (append_assoc ws L.new x.warnings) (sym stats))

      -- the head, the rows or the rest pass the largest place
      passes : m ≡ 0 → r'.past ≡ (st.past || is_past st.at (length (records_bytes (record_of name r L.rows D.descendants ∷ []))))
      passes k =
          let headed-past = B ∙ ap (λ (k : ℕ). st.past || is_past st.at k) (sym (head-length r name)) in
          let lined-past = past-both H st.past (lines_bytes L.rows) headed-past (L.past z) in
          past-both (H then L.laid z) st.past (detail_bytes name r D.descendants) lined-past (D.past k)
          ∙ ap (λ (bs : List ℕ). st.past || is_past st.at (length bs)) (sym (record-bytes name r L.rows D.descendants))

      -- the record is laid, or the walk is refused
      pub range-imported : Imports (import_range (context_with main supplementary lists addresses w q) (entry_here main p) (below_entry main p) name r) (sheets main supplementary) q (memory w t f u) st (memory w₂ t₃ f₁ u₂) m r'
      unfolding ◌>>=◌
      range-imported = record {
        records = record_of name r L.rows D.descendants ∷ [];
        new = L.new ++ D.descendants.warnings;
        laid = λ k. put_as (record-bytes name r L.rows D.descendants) (H then L.laid z then D.laid k);
        past = passes;
        warned = λ k. put_as (warnings-append L.new D.descendants.warnings) (L.warned z then D.warned k);
        grown = λ k. rw D.table (grown-kept (L.grown z) (but_one D.rest) table_below size₂);
        kept = λ k. but_trans (L.kept z) (touched-walk main supplementary q st.table D.rest);
        ok = ends_as;
        no = λ k rs ws. after-rows rs ws ∙ ap (λ (o : Outcome Descendants). o >>= range_end name r (state_of main supplementary w st rs ws) (lines_found ws)) (D.no k);
      }
