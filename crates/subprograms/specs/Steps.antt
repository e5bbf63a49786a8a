-- Contract. What each step of the import of a unit promises, in terms of the definition's step.
use Rattle.std.specs.Prelude.{Option as Maybe, Some, None, Result}
use Rattle.std.specs.Prelude.{◌≡◌, Bool, true, false, cond, ◌||◌, List, [], ◌∷◌, ◌++◌, ℕ, ◌+◌, eqb, length}
use Rattle.std.proofs.Math.Option.{Option, none, some}
use Rattle.tlv.specs.Tags.{tray_row_tag, tray_warning_tag, entry_whole}
use Rattle.tlv.specs.declared.model.AddressRange.{AddressRange}
use Rattle.tlv.specs.declared.model.LineEntry.{LineEntry}
use Rattle.tlv.specs.declared.refusal.Refusal.{Refusal}
use Rattle.tlv.specs.Refusals.{status_of}
use Rattle.tlv.specs.Outcome.{Outcome, refused, done, ◌>>=◌}
use Rattle.tlv.specs.Fields.{encode}
use Rattle.tlv.specs.Model.{Entry, EntryRange, RangeFailure}
use Rattle.buffers.specs.Buffer.{Put}
use Rattle.buffers.specs.Table.{Kept, KeptBut}
use Rattle.buffers.specs.Output.{Function, Warning, each_of, row_payload, warning_payload, records_bytes, warnings_bytes, about}
use Rattle.buffers.specs.Output.{rejected_range, malformed_ranges}
use Rattle.access.specs.declared.access.Value.{Value}
use Rattle.access.specs.Places.{entry_here, unit_here}
use Rattle.lines.specs.Files.{FileTable}
use Rattle.lines.specs.Rows.{for_range}
use Rattle.files.specs.Store.{table_of, Grown}
use Rattle.rnglists.specs.declared.lists.ListField.{ListField}
use Rattle.rnglists.specs.RangeLists.{ListRanges, failure_by, decimal}
use Rattle.rnglists.specs.Sizes.{width_of}
use Rattle.ranges.specs.RangeTable.{list_at}
use Rattle.references.specs.Search.{resolve_declaration_line}
use Rattle.imports.specs.Tree.{Descendants}
use Rattle.imports.specs.Import.{State, ImportContext, statement_sequence_offset, sequence_warning, declaration_if, lines_with}
use Rattle.imports.specs.Import.{is_tombstone, is_live_range, rejected}
use Rattle.imports.specs.Import.{import_range, import_ranges, import_subprogram, is_subprogram, descendants_of}
use Rattle.dies.specs.Answers.{value_or}
use Rattle.dies.specs.Details.{entries_from, detail_bytes}
use Rattle.dies.specs.Past.{is_past}
use Rattle.subprograms.specs.declared.model.ImportState.{ImportState}
use Rattle.subprograms.specs.declared.model.ImportContext.{ImportContext as Context}
use Rattle.subprograms.specs.declared.model.Outputs.{Outputs}
use Rattle.subprograms.specs.declared.function_lines.FoundLines.{FoundLines}
use Rattle.subprograms.specs.Stats.{stats_of, with_function, with_rejected}
use Rattle.subprograms.specs.Contexts.{main_of, supplementary_of, touched, walk_extent}

-- ---- the rows of a record

-- rows as fields 42
abbrev pub lines_bytes : List LineEntry → List ℕ
lines_bytes ls = each_of (λ l. encode tray_row_tag (row_payload l)) ls

-- a record's rows, and the file table and the warnings after they were found
pub record FunctionLines : Type 0 where
  pub rows : List LineEntry
  pub table : FileTable
  pub warnings : List Warning

-- the declaration of an entry as the only row
unfoldable pub declared_line : ImportContext → Entry → ℕ → FileTable → List Warning → Outcome FunctionLines
declared_line q e start table ws =
    resolve_declaration_line q.dwarf q.unit e q.lines.files table ws >>= λ d.
    done (record { rows = lines_with (record { start = start; end = start }) d.found []; table = d.table; warnings = d.warnings })

-- what import_range does first: the rows of a range of an entry, else its declaration
unfoldable pub function_lines : ImportContext → Entry → AddressRange → FileTable → List Warning → Outcome FunctionLines
function_lines q e r table ws =
    let requested = statement_sequence_offset q.unit e in
    let own = for_range q.lines r requested in
    sequence_warning q.unit e requested own.invalid >>= λ new.
    declaration_if q e table (ws ++ new) own.rows >>= λ d.
    done (record { rows = lines_with r d.found own.rows; table = d.table; warnings = d.warnings })

-- the sequence that a value asks for; the number `limit` asks for none
abbrev pub sequence_by : ℕ → Value → Option ℕ
sequence_by limit (Value.Unsigned n) = cond (eqb n limit) none (some n)
sequence_by limit (Value.FileNumber n) = none
sequence_by limit (Value.Text start len) = none
sequence_by limit (Value.UnitReference n) = none
sequence_by limit (Value.SectionReference n) = none
sequence_by limit (Value.SupplementaryReference n) = none
sequence_by limit (Value.SectionOffset n) = cond (eqb n limit) none (some n)
sequence_by limit (Value.LineOffset n) = cond (eqb n limit) none (some n)
sequence_by limit (Value.Address n) = none
sequence_by limit Value.Failed = none

-- .. where there is a value
abbrev pub sequence_in : ℕ → Maybe Value → Option ℕ
sequence_in limit (Some v) = sequence_by limit v
sequence_in limit None = none

-- the warning of an invalid statement sequence was laid, and the warnings go on at r; or the number n refuses it
pub record SequenceWarned (main : List ℕ) (unit p : ℕ) (requested : Option ℕ) (invalid : Bool) (at : ℕ) (u u' : List ℕ) (n r : ℕ) : Type 0 where
  pub new : List Warning
  pub ok : n ≡ 0 → sequence_warning (unit_here main unit) (entry_here main p) requested invalid ≡ done new
  pub laid : n ≡ 0 → Put at (warnings_bytes new) u u' r
  pub no : (n ≡ 0 → ⊥) → sequence_warning (unit_here main unit) (entry_here main p) requested invalid ≡ refused n

-- no rows yet
abbrev pub lines_before : ImportState → FoundLines
lines_before st = record { state = st; count = 0 }

-- what the definition does by F is done in memory: rows, files and warnings are laid, and the file table stands in w'; or the number n refuses it
pub record FindsLines (F : FileTable → List Warning → Outcome FunctionLines) (main supplementary : List ℕ) (q : Context)
    (w t f u : List ℕ) (st : ImportState) (w' t' f' u' : List ℕ) (n : ℕ) (r : FoundLines) : Type 0 where
  pub rows : List LineEntry
  pub new : List Warning
  pub count : n ≡ 0 → r.count ≡ length rows
  pub stats : n ≡ 0 → r.state.stats ≡ st.stats
  pub laid : n ≡ 0 → Put st.at (lines_bytes rows) t t' r.state.at
  pub past : n ≡ 0 → r.state.past ≡ (st.past || is_past st.at (length (lines_bytes rows)))
  pub warned : n ≡ 0 → Put st.warned (warnings_bytes new) u u' r.state.warned
  pub grown : n ≡ 0 → Grown main supplementary w w' f f' st.table r.state.table
  pub kept : n ≡ 0 → KeptBut w w' (touched main supplementary q st.table)
  pub ok : n ≡ 0 → (ws : List Warning)
      → F (table_of main supplementary w st.table) ws
      ≡ done (record { rows = rows; table = table_of main supplementary w' r.state.table; warnings = ws ++ new })
  pub no : (n ≡ 0 → ⊥) → (ws : List Warning) → F (table_of main supplementary w st.table) ws ≡ refused n

-- .. of what is lent
abbrev pub LinesTo : (FileTable → List Warning → Outcome FunctionLines) → Context → List ℕ → Outputs → ImportState → List ℕ → Outputs
    → Result FoundLines Refusal → Type 0
LinesTo F q w t st w' t' r =
    FindsLines F (main_of q) (supplementary_of q) q w t.records.now t.files.now t.warnings.now st
    w' t'.records.now t'.files.now t'.warnings.now (status_of r) (value_or (lines_before st) r)

-- ---- nodes and call sites of a record

-- the outcome o of the walk below a subprogram is laid, and its record with so many rows is counted; or the number n refuses it
pub record ImportsDetails (o : Outcome Descendants) (main supplementary : List ℕ) (q : Context) (name : List ℕ) (range : AddressRange) (rows : ℕ)
    (w t u : List ℕ) (st : ImportState) (w' t' u' : List ℕ) (n : ℕ) (r : ImportState) : Type 0 where
  pub table : r.table ≡ st.table
  pub rest : Kept w w' q.context.ranges (walk_extent main supplementary q)
  pub descendants : Descendants
  pub ok : n ≡ 0 → o ≡ done descendants
  pub laid : n ≡ 0 → Put st.at (detail_bytes name range descendants) t t' r.at
  pub past : n ≡ 0 → r.past ≡ (st.past || is_past st.at (length (detail_bytes name range descendants)))
  pub warned : n ≡ 0 → Put st.warned (warnings_bytes descendants.warnings) u u' r.warned
  pub counted : n ≡ 0 → stats_of r.stats ≡ with_function rows (length descendants.inlines) (stats_of st.stats)
  pub no : (n ≡ 0 → ⊥) → o ≡ refused n

-- .. of what is lent
abbrev pub DetailsTo : Outcome Descendants → Context → List ℕ → AddressRange → ℕ → List ℕ → Outputs → ImportState → List ℕ → Outputs
    → Result ImportState Refusal → Type 0
DetailsTo o q name range rows w t st w' t' r =
    ImportsDetails o (main_of q) (supplementary_of q) q name range rows w t.records.now t.warnings.now st w' t'.records.now t'.warnings.now
    (status_of r) (value_or st r)

-- ---- steps from a state to a state

-- the definition's state that stands in w, with the records and warnings that were laid
abbrev pub state_of : List ℕ → List ℕ → List ℕ → ImportState → List Function → List Warning → State
state_of main supplementary w st rs ws = record {
  table = table_of main supplementary w st.table;
  records = rs;
  warnings = ws;
  stats = stats_of st.stats;
}

-- what is read: the main and the supplementary sheet
pub record Sheets : Type 0 where
  pub main : List ℕ
  pub supplementary : List ℕ

abbrev pub sheets : List ℕ → List ℕ → Sheets
sheets main supplementary = record { main = main; supplementary = supplementary }

-- what is written: work and the three trays
pub record Memory : Type 0 where
  pub work : List ℕ
  pub records : List ℕ
  pub files : List ℕ
  pub warnings : List ℕ

abbrev pub memory : List ℕ → List ℕ → List ℕ → List ℕ → Memory
memory w t f u = record { work = w; records = t; files = f; warnings = u }

-- what the definition does by F is done in memory: new records, files and warnings are laid behind those before them, the rest of the state stands in the
-- work slice then, and of work nothing is written but the stretches `over`; or the number n refuses it
pub record Grows (F : State → Outcome State) (s : Sheets) (over : List (ℕ × ℕ)) (m : Memory) (st : ImportState) (m' : Memory) (n : ℕ) (r : ImportState)
    : Type 0 where
  pub records : List Function
  pub new : List Warning
  pub laid : n ≡ 0 → Put st.at (records_bytes records) m.records m'.records r.at
  pub past : n ≡ 0 → r.past ≡ (st.past || is_past st.at (length (records_bytes records)))
  pub warned : n ≡ 0 → Put st.warned (warnings_bytes new) m.warnings m'.warnings r.warned
  pub grown : n ≡ 0 → Grown s.main s.supplementary m.work m'.work m.files m'.files st.table r.table
  pub kept : n ≡ 0 → KeptBut m.work m'.work over
  pub ok : n ≡ 0 → (rs : List Function) (ws : List Warning)
      → F (state_of s.main s.supplementary m.work st rs ws)
      ≡ done (state_of s.main s.supplementary m'.work r (rs ++ records) (ws ++ new))
  pub no : (n ≡ 0 → ⊥) → (rs : List Function) (ws : List Warning)
      → F (state_of s.main s.supplementary m.work st rs ws) ≡ refused n

-- .. and nothing but what an import of ranges writes to
abbrev pub Imports : (State → Outcome State) → Sheets → Context → Memory → ImportState → Memory → ℕ → ImportState → Type 0
Imports F s q m st m' n r = Grows F s (touched s.main s.supplementary q st.table) m st m' n r

-- .. of what is lent
abbrev pub ImportsTo : (State → Outcome State) → Context → List ℕ → Outputs → ImportState → List ℕ → Outputs → Result ImportState Refusal → Type 0
ImportsTo F q w t st w' t' r =
    Imports F (sheets (main_of q) (supplementary_of q)) q (memory w t.records.now t.files.now t.warnings.now) st
    (memory w' t'.records.now t'.files.now t'.warnings.now) (status_of r) (value_or st r)

-- a range was rejected; the warnings go on at `warned`
pub record Rejects (st : ImportState) (warned : ℕ) (r : ImportState) : Type 0 where
  pub table : r.table ≡ st.table
  pub at : r.at ≡ st.at
  pub warned-is : r.warned ≡ warned
  pub past : r.past ≡ st.past
  pub counted : stats_of r.stats ≡ with_rejected (stats_of st.stats)

-- the fault n of a list was rejected, with a warning whose reason is its number in decimal
pub record RejectsList (st : ImportState) (n : ℕ) (u u' : List ℕ) (r : ImportState) : Type 0 where
  pub warned : ℕ
  pub put : Put st.warned (encode tray_warning_tag (warning_payload (malformed_ranges true (decimal n)))) u u' warned
  pub rejects : Rejects st warned r

-- the entries below the one at place p
abbrev pub below_entry : List ℕ → ℕ → List Entry
below_entry main p = descendants_of (entry_here main p).depth (entries_from main (p + entry_whole))

-- one range of import_ranges
unfoldable pub import_one : ImportContext → Entry → List Entry → List ℕ → EntryRange → State → Outcome State
import_one q e below name r s =
    cond (is_tombstone q.unit.text r) (done (rejected [] s))
    (cond (is_live_range q.unit.text r.range) (import_range q e below name r.range s)
    (done (rejected (about rejected_range r.range.start r.range.end ∷ []) s)))

-- import_by_failure, of ranges and a failure that are given
abbrev pub import_failing : ImportContext → Entry → List Entry → List ℕ → List EntryRange → Option RangeFailure → State → Outcome State
import_failing q e below name rs none s = import_ranges q e below name rs s
import_failing q e below name rs (some f) s =
    cond (eqb f.stage 0) (done (rejected (malformed_ranges false f.reason ∷ []) s))
    (import_ranges q e below name rs s >>= λ t. done (rejected (malformed_ranges true f.reason ∷ []) t))

-- the ranges of the list that a field names
abbrev pub ranges_listed : List ℕ → List ℕ → ListField → ListRanges
ranges_listed lists addresses f = list_at lists addresses f.addresses (width_of f.size) f.offset f.base

-- of a list, whose fault is a failure of stage 1
abbrev pub import_listed : ImportContext → Entry → List Entry → List ℕ → ListRanges → State → Outcome State
import_listed q e below name l s = import_failing q e below name l.given (failure_by l.fault) s

-- one entry of import_unit_details
unfoldable pub import_entry : ImportContext → Entry → List Entry → State → Outcome State
import_entry q e below s = cond (is_subprogram e) (import_subprogram q e below s) (done s)
