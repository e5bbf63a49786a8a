-- The rows of a record: how they are laid, and its own rows or its declaration after the warning of its sequence.
use mathlib.Core.Path.{◌≡◌, refl, sym, ap, ◌∙◌}
use mathlib.Core.Logic.{inl}
use mathlib.Core.Bool.{Bool, cond, not, ◌&&◌, ◌||◌}
use mathlib.Core.List.{List, [], ◌∷◌, ◌++◌, append_assoc}
use mathlib.Core.Option.{Option, none, some}
use Prim.Native.Nat.{ℕ, ◌+◌, ◌*◌, ◌≤◌, ◌<◌}
use native.Mathlib.Omega.{arith}
use lib.ListN.{length, drop}
use Rattle.std.specs.Prelude.{Option as Maybe, Result, Ok, Err}
use Rattle.tlv.specs.declared.refusal.Refusal.{Refusal}
use Rattle.tlv.specs.Refusals.{status_of}
use Rattle.tlv.proofs.AnswerLaws.{numbered}
use Rattle.dies.specs.Answers.{value_or}
use Rattle.tlv.specs.declared.model.AddressRange.{AddressRange}
use Rattle.tlv.specs.declared.model.LineEntry.{LineEntry}
use Rattle.tlv.specs.Outcome.{Outcome, refused, done, ◌>>=◌}
use Rattle.tlv.specs.Lists.{first, is_empty}
use Rattle.tlv.specs.Fields.{encode}
use Rattle.tlv.specs.Model.{Entry}
use Rattle.buffers.specs.Buffer.{top, Put}
use Rattle.buffers.specs.Table.{chunk, Clear, KeptBut}
use Rattle.buffers.specs.Output.{Warning, row_payload, each_of}
use Rattle.buffers.proofs.BufferLaws.{◌then◌, put_as}
use Rattle.buffers.proofs.TableLaws.{but_one, but_trans}
use Rattle.access.specs.Places.{entry_here, unit_here}
use Rattle.lines.specs.Files.{FileTable, FileIndices}
use Rattle.lines.specs.Lines.{SequencedLine, LineSequenceRange, UnitLines}
use Rattle.lines.specs.Rows.{contains, belongs, compact_line_rows, own_rows, earlier_in, earlier_row, starts_late, sequence_exists, selected_sequence, rows_for, for_range}
use Rattle.tlv.specs.declared.model.FileIndex.{FileIndex}
use Rattle.buffers.specs.declared.table.Stored.{Stored}
use Rattle.files.specs.Store.{extent, table_of}
use Rattle.files.proofs.GrownLaws.{table_kept, files-kept, grown-none, grown-kept, grown-after}
use Rattle.rows.specs.declared.unit_lines.StoredLines.{StoredLines}
use Rattle.rows.specs.declared.unit_lines.FunctionRows.{FunctionRows}
use Rattle.rows.specs.Sizes.{entry_size}
use Rattle.rows.specs.Stored.{sequence_of, entry_of, entries_of}
use Rattle.rows.specs.Selects.{unit_lines_of, ForRange}
use Rattle.rows.proofs.StoredLaws.{entries-length, entries-nil, entries-rest_none, entries-rest_cons}
use Rattle.collect.specs.Collects.{lines_in}
use Rattle.references.specs.Search.{Declaring, resolve_declaration_line}
use Rattle.imports.specs.Import as import
use Rattle.imports.specs.Import.{statement_sequence_offset, sequence_warning, declaration_if, lines_with}
use Rattle.dies.specs.Past.{is_past}
use Rattle.dies.proofs.NodeStepLaws.{warnings-append}
use Rattle.subprograms.specs.declared.model.ImportContext.{ImportContext}
use Rattle.subprograms.specs.declared.model.ImportState.{ImportState}
use Rattle.subprograms.specs.declared.function_lines.FoundLines.{FoundLines}
use Rattle.subprograms.specs.Contexts.{ContextIn, context_with, touched}
use Rattle.subprograms.specs.Steps.{lines_bytes, FunctionLines, declared_line, function_lines, SequenceWarned, FindsLines}
use Rattle.subprograms.proofs.ContextLaws.{context-kept, context-same, touched-rows}
use Rattle.subprograms.proofs.LaidPastLaws.{lines-length}

-- ---- laid into an output buffer

pub lines-laid : (w : List ℕ) (p n i : ℕ) → n ≤ i → lines_bytes (drop i (entries_of w p n)) ≡ []
unfolding each_of
lines-laid w p n i h = rw (entries-rest_none w p n i h)

pub lines-lay : (w : List ℕ) (p n i : ℕ) (l : LineEntry) → i < n → l ≡ entry_of (chunk w (p + i * entry_size) entry_size)
    → lines_bytes (drop i (entries_of w p n)) ≡ encode 0x42 (row_payload l) ++ lines_bytes (drop (i + 1) (entries_of w p n))
unfolding each_of
lines-lay w p n i l h e = ap (λ (ls : List LineEntry). lines_bytes ls) (entries-rest_cons w p n i h) ∙ rw e

-- ---- which rows a function takes does not depend on the files of its unit

abbrev lines_as : List SequencedLine → FileIndices → List LineSequenceRange → UnitLines
lines_as es fs ss = record { entries = es; files = fs; sequences = ss }

module _ (es : List SequencedLine) (fs gs : FileIndices) (ss : List LineSequenceRange) where
  exists-same : (o : Option ℕ) → sequence_exists (lines_as es fs ss) o ≡ sequence_exists (lines_as es gs ss) o
  exists-same none = refl
  exists-same (some n) = refl

  selected-same : (o : Option ℕ) → selected_sequence (lines_as es fs ss) o ≡ selected_sequence (lines_as es gs ss) o
  unfolding selected_sequence
  selected-same o = ap (λ (b : Bool). cond b o none) (exists-same o)

  earlier-same : (start : ℕ) (s : Option ℕ) (o : Option LineSequenceRange) → earlier_in (lines_as es fs ss) start s o ≡ earlier_in (lines_as es gs ss) start s o
  earlier-same start s none = refl
  earlier-same start s (some x) = refl

  rows_same : (r : AddressRange) (s : Option ℕ) → rows_for (lines_as es fs ss) r s ≡ rows_for (lines_as es gs ss) r s
  unfolding rows_for own_rows earlier_row
  rows_same r s =
      let own = own_rows (lines_as es fs ss) r s in
      ap (λ (l : List LineEntry). compact_line_rows (cond (starts_late r.start own) (l ++ own) own))
      (earlier-same r.start s (first (λ x. belongs s x.statement_sequence && contains x.range r.start) ss))

  chosen-same : (r : AddressRange) (o : Option ℕ) → rows_for (lines_as es fs ss) r (selected_sequence (lines_as es fs ss) o) ≡ rows_for (lines_as es gs ss) r (selected_sequence (lines_as es gs ss) o)
  chosen-same r o = rows_same r (selected_sequence (lines_as es fs ss) o) ∙ ap (rows_for (lines_as es gs ss) r) (selected-same o)

  range_same : (r : AddressRange) (o : Option ℕ) → for_range (lines_as es fs ss) r o ≡ for_range (lines_as es gs ss) r o
  unfolding for_range
  range_same r o = λ i. record { rows = chosen-same r o i; invalid = not (exists-same o i) && not (is_empty (chosen-same r o i)) }

stored_same : (w : List ℕ) (l : StoredLines) (is : Stored FileIndex) (r : AddressRange) (o : Option ℕ) → for_range (lines_in w l is) r o ≡ for_range (unit_lines_of w l) r o
unfolding lines_in unit_lines_of
stored_same w l is r o = range_same _ _ _ _ r o

-- ---- what the definition does

-- the rows of a range, or its declaration
abbrev rows_left : AddressRange → List LineEntry → Declaring → FunctionLines
rows_left r rows d = record { rows = lines_with r d.found rows; table = d.table; warnings = d.warnings }

module _ (q : import.ImportContext) (e : Entry) (r : AddressRange) (table : FileTable) (ws : List Warning) where
  abbrev lines_from : Outcome (List Warning) → List LineEntry → Outcome FunctionLines
  lines_from o rows =
      o >>= λ new.
      declaration_if q e table (ws ++ new) rows >>= λ d.
      done (rows_left r rows d)

  from_is : {o : Outcome (List Warning)} {rows : List LineEntry}
      → sequence_warning q.unit e (statement_sequence_offset q.unit e) (for_range q.lines r (statement_sequence_offset q.unit e)).invalid ≡ o
      → (for_range q.lines r (statement_sequence_offset q.unit e)).rows ≡ rows → function_lines q e r table ws ≡ lines_from o rows
  unfolding function_lines
  from_is h k = λ i. lines_from (h i) (k i)

  from-own : (new : List Warning) (rows : List LineEntry) → (length rows ≡ 0 → ⊥) → lines_from (done new) rows ≡ done (record { rows = rows; table = table; warnings = ws ++ new })
  unfolding ◌>>=◌
  from-own new [] h = absurd (h refl)
  from-own new (x ∷ xs) h = refl

  from-declared : (new : List Warning) → lines_from (done new) [] ≡ declared_line q e r.start table (ws ++ new)
  unfolding declared_line ◌>>=◌
  from-declared new = go (resolve_declaration_line q.dwarf q.unit e q.lines.files table (ws ++ new))
    where
      row : (o : Option LineEntry) → lines_with r o [] ≡ lines_with (record { start = r.start; end = r.start }) o []
      row none = refl
      row (some l) = refl

      go : (o : Outcome Declaring)
          → (o >>= λ d. done (rows_left r [] d)) ≡ (o >>= λ d. done (rows_left (record { start = r.start; end = r.start }) [] d))
      go (refused n) = refl
      go (done d) = λ i. done (record { rows = row d.found i; table = d.table; warnings = d.warnings })

-- of a refused answer nothing is promised
pub finds-any : {F : FileTable → List Warning → Outcome FunctionLines} {main supplementary : List ℕ} {q : ImportContext} {w t f u : List ℕ} {st : ImportState} {w' t' f' u' : List ℕ} (l l' : FoundLines) (r : Result FoundLines Refusal)
    → FindsLines F main supplementary q w t f u st w' t' f' u' (status_of r) (value_or l r) → FindsLines F main supplementary q w t f u st w' t' f' u' (status_of r) (value_or l' r)
finds-any l l' (Ok x) A = A
finds-any l l' (Err e) A = record {
  rows = [];
  new = [];
  count = λ z. absurd (numbered e z);
  stats = λ z. absurd (numbered e z);
  laid = λ z. absurd (numbered e z);
  past = λ z. absurd (numbered e z);
  warned = λ z. absurd (numbered e z);
  grown = λ z. absurd (numbered e z);
  kept = λ z. absurd (numbered e z);
  ok = λ z. absurd (numbered e z);
  no = A.no;
}

-- ---- the steps of function_lines

module _ {main supplementary w w₁ u u₁ : List ℕ} {q : ImportContext} (st : ImportState) {p : ℕ} {range : AddressRange} {requested : Maybe ℕ} {own : FunctionRows} {m x : ℕ}
    (C : ContextIn main supplementary w q st.table) (asked : sequence_of requested ≡ statement_sequence_offset (unit_here main q.context.unit) (entry_here main p))
    (R : ForRange w w₁ q.lines range requested own) (W : SequenceWarned main q.context.unit p (sequence_of requested) own.invalid st.warned u u₁ m x) where
  own_is : for_range (lines_in w q.lines q.context.indices) range (statement_sequence_offset (unit_here main q.context.unit) (entry_here main p)) ≡ for_range (unit_lines_of w q.lines) range (sequence_of requested)
  own_is = stored_same w q.lines q.context.indices range _ ∙ ap (for_range (unit_lines_of w q.lines) range) (sym asked)

  rows_are : (for_range (lines_in w q.lines q.context.indices) range (statement_sequence_offset (unit_here main q.context.unit) (entry_here main p))).rows ≡ entries_of w₁ own.rows.base own.rows.count
  rows_are = (λ i. (own_is i).rows) ∙ sym R.rows

  warns-as : sequence_warning (unit_here main q.context.unit) (entry_here main p) (statement_sequence_offset (unit_here main q.context.unit) (entry_here main p))
      (for_range (lines_in w q.lines q.context.indices) range (statement_sequence_offset (unit_here main q.context.unit) (entry_here main p))).invalid
      ≡ sequence_warning (unit_here main q.context.unit) (entry_here main p) (sequence_of requested) own.invalid
  warns-as =
      let same : (for_range (lines_in w q.lines q.context.indices) range (statement_sequence_offset (unit_here main q.context.unit) (entry_here main p))).invalid ≡ own.invalid = (λ i. (own_is i).invalid) ∙ sym R.invalid in
      λ i. sequence_warning (unit_here main q.context.unit) (entry_here main p) (sym asked i) (same i)

  -- the warning is refused
  pub finds-unwarned : (lists addresses : List ℕ) {t t' f f' : List ℕ} {r : FoundLines} → (m ≡ 0 → ⊥)
      → FindsLines (function_lines (context_with main supplementary lists addresses w q) (entry_here main p) range) main supplementary q w t f u st w₁ t' f' u₁ m r
  unfolding ◌>>=◌
  finds-unwarned lists addresses refuses = record {
    rows = [];
    new = [];
    count = λ z. absurd (refuses z);
    stats = λ z. absurd (refuses z);
    laid = λ z. absurd (refuses z);
    past = λ z. absurd (refuses z);
    warned = λ z. absurd (refuses z);
    grown = λ z. absurd (refuses z);
    kept = λ z. absurd (refuses z);
    ok = λ z. absurd (refuses z);
    no = λ _ ws. from_is (context_with main supplementary lists addresses w q) (entry_here main p) range (table_of main supplementary w st.table) ws (warns-as ∙ W.no refuses) refl;
  }

  -- what the rows were written to lies apart from the file table
  written : KeptBut w w₁ ((q.lines.buffer, entry_size + q.lines.lines.count * entry_size) ∷ [])
  written = but_one R.rest

  apart : Clear st.table.base (extent st.table) ((q.lines.buffer, entry_size + q.lines.lines.count * entry_size) ∷ [])
  apart = (inl (omega (arith, C.ordered.table, C.ordered.indices, C.ordered.lines, C.ordered.sequences)), tt)

  rows-touched : KeptBut w w₁ (touched main supplementary q st.table)
  rows-touched = touched-rows main supplementary q st.table R.rest

  same-table : table_of main supplementary w₁ st.table ≡ table_of main supplementary w st.table
  same-table = table_kept C.files written apart

  pub context-next : length w₁ ≡ length w → ContextIn main supplementary w₁ q st.table
  context-next size = context-kept C rows-touched size refl refl (files-kept C.files written apart size)

  -- the warning was laid, or there was none
  module _ (lists addresses : List ℕ) (warned : m ≡ 0) (size : length w₁ ≡ length w) where
    from : (ws : List Warning) {rows : List LineEntry} → entries_of w₁ own.rows.base own.rows.count ≡ rows
        → function_lines (context_with main supplementary lists addresses w q) (entry_here main p) range (table_of main supplementary w st.table) ws
        ≡ lines_from (context_with main supplementary lists addresses w q) (entry_here main p) range (table_of main supplementary w st.table) ws (done W.new) rows
    from ws k = from_is (context_with main supplementary lists addresses w q) (entry_here main p) range (table_of main supplementary w st.table) ws (warns-as ∙ W.ok warned) (rows_are ∙ k)

    -- the function's own rows
    pub finds-own : {t t' f : List ℕ} {a : ℕ} {b : Bool} {fits : (a ≤ top) × (x ≤ top)} → (own.rows.count ≡ 0 → ⊥) → length f < top → b ≡ (st.past || is_past st.at (21 * own.rows.count))
        → Put st.at (lines_bytes (entries_of w₁ own.rows.base own.rows.count)) t t' a
        → FindsLines (function_lines (context_with main supplementary lists addresses w q) (entry_here main p) range) main supplementary q w t f u st w₁ t' f u₁ 0
        (record { state = record { table = st.table; at = a; warned = x; stats = st.stats; past = b; within = fits }; count = own.rows.count })
    finds-own some-rows small B P =
        let rows = entries_of w₁ own.rows.base own.rows.count in
        let long : length rows ≡ own.rows.count = entries-length w₁ own.rows.base own.rows.count in
        record {
          rows = rows;
          new = W.new;
          count = λ z. sym long;
          stats = λ z. refl;
          laid = λ z. P;
          past = λ z. B ∙ ap (λ (n : ℕ). st.past || is_past st.at n) (sym (lines-length rows ∙ ap (λ (k : ℕ). 21 * k) long));
          warned = λ z. W.laid warned;
          grown = λ z. grown-kept (grown-none C.files small) written apart size;
          kept = λ z. rows-touched;
          ok = λ z ws. from ws refl
              ∙ from-own (context_with main supplementary lists addresses w q) (entry_here main p) range (table_of main supplementary w st.table) ws W.new rows (λ n. some-rows (sym long ∙ n))
              ∙ (λ i. done (record { rows = rows; table = sym same-table i; warnings = ws ++ W.new }));
          no = λ n. absurd (n refl);
        }

    -- the declaration, where it has none
    pub finds-declared : {fits : (st.at ≤ top) × (x ≤ top)} {t f w₂ t₂ f₂ u₂ : List ℕ} {n : ℕ} {r : FoundLines} → own.rows.count ≡ 0
        → FindsLines (declared_line (context_with main supplementary lists addresses w₁ q) (entry_here main p) range.start) main supplementary q w₁ t f u₁
        (record { table = st.table; at = st.at; warned = x; stats = st.stats; past = st.past; within = fits }) w₂ t₂ f₂ u₂ n r
        → FindsLines (function_lines (context_with main supplementary lists addresses w q) (entry_here main p) range) main supplementary q w t f u st w₂ t₂ f₂ u₂ n r
    finds-declared {w₂ = w₂} {r = r} no_rows D =
        let none-own : entries_of w₁ own.rows.base own.rows.count ≡ [] = ap (entries_of w₁ own.rows.base) no_rows ∙ entries-nil w₁ own.rows.base in
        let same : (ws : List Warning) → function_lines (context_with main supplementary lists addresses w q) (entry_here main p) range (table_of main supplementary w st.table) ws
        ≡ declared_line (context_with main supplementary lists addresses w₁ q) (entry_here main p) range.start (table_of main supplementary w₁ st.table) (ws ++ W.new) =
        λ ws. from ws none-own
        ∙ from-declared (context_with main supplementary lists addresses w q) (entry_here main p) range (table_of main supplementary w st.table) ws W.new
        ∙ (λ i. declared_line (sym (context-same C rows-touched lists addresses) i) (entry_here main p) range.start (sym same-table i) (ws ++ W.new)) in
        record {
          rows = D.rows;
          new = W.new ++ D.new;
          count = D.count;
          stats = D.stats;
          laid = D.laid;
          past = D.past;
          warned = λ z. put_as (warnings-append W.new D.new) (W.laid warned then D.warned z);
          grown = λ z. grown-after C.files written apart (D.grown z);
          kept = λ z. but_trans rows-touched (D.kept z);
          ok = λ z ws. same ws ∙ D.ok z (ws ++ W.new)
              ∙ (λ i. done (record { rows = D.rows; table = table_of main supplementary w₂ r.state.table; warnings = append_assoc ws W.new D.new i }));
          no = λ z ws. same ws ∙ D.no z (ws ++ W.new);
        }
