-- Definition. The import of one unit, and of units one after another (the Rust's import_unit, import_unit_details, import_dwarf).
use Rattle.std.specs.Prelude.{ℕ, ◌+◌, ◌*◌, ◌-◌, ◌^◌, min, Bool, true, false, cond, ◌&&◌, ◌||◌, not, List, [], ◌∷◌, ◌++◌, length, ltb, eqb}
use Rattle.std.proofs.Math.Option.{Option, none, some}
use Rattle.tlv.specs.Constants.{dw_at_llvm_stmt_sequence, dw_tag_subprogram}
use Rattle.tlv.specs.declared.model.AddressRange.{AddressRange}
use Rattle.tlv.specs.declared.model.LineEntry.{LineEntry}
use Rattle.tlv.specs.Outcome.{Outcome, done, ◌>>=◌}
use Rattle.tlv.specs.Lists.{take_while, exists, is_empty}
use Rattle.tlv.specs.Model.{CompilationUnit, Entry, EntryRange, Attribute, RangeFailure, program_of}
use Rattle.buffers.specs.Output.{InlineNode, Function, Warning, malformed_ranges, about, rejected_range, invalid_statement_sequence}
use Rattle.lines.specs.Files.{FileTable, file_index}
use Rattle.lines.specs.Lines.{UnitLines}
use Rattle.lines.specs.Rows.{contains, for_range}
use Rattle.machine.specs.LineRows.{collect_lines}
use Rattle.references.specs.Search.{Dwarf, Declaring, empty_trail, attribute, absolute_entry_offset, resolve_name, resolve_declaration_line}
use Rattle.imports.specs.Tree.{DetailContext, die_ranges, extract_subprogram_details, lies_in}

-- ConversionStats, as far as document 01's four statistics go
pub record ConversionStats : Type 0 where
  pub functions : ℕ
  pub line_rows : ℕ
  pub inline_nodes : ℕ
  pub rejected_ranges : ℕ

-- what imports leave behind: units can follow each other
pub record State : Type 0 where
  pub table : FileTable
  pub records : List Function
  pub warnings : List Warning
  pub stats : ConversionStats

-- ImportContext: what is the same for every subprogram of a unit
pub record ImportContext : Type 0 where
  pub dwarf : Dwarf
  pub unit : CompilationUnit
  pub lines : UnitLines
  pub include_inlines : Bool
  pub include_call_sites : Bool

-- a count that stays at its largest value (saturating_add)
abbrev pub saturated : ℕ → ℕ
saturated n = min n (2 ^ 64 - 1)

-- ---- statement sequences

-- statement_sequence_offset: the largest number of the unit's word is no request
abbrev pub sequence_if : CompilationUnit → Option Attribute → Option ℕ
sequence_if u none = none
sequence_if u (some a) =
    cond ((eqb a.kind 1 || eqb a.kind 7 || eqb a.kind 8) && not (eqb a.value (2 ^ (8 * u.word_size) - 1))) (some a.value) none

unfoldable pub statement_sequence_offset : CompilationUnit → Entry → Option ℕ
statement_sequence_offset u e = sequence_if u (attribute e dw_at_llvm_stmt_sequence)

-- ---- ranges

-- is_live_range: "A range of 4,294,967,295 bytes in text is live, one byte more is not, an empty one is not."
unfoldable pub is_live_range : List AddressRange → AddressRange → Bool
is_live_range text r = ltb r.start r.end && ltb (r.end - r.start) (2 ^ 32) && lies_in text r

-- "A subprogram's range starting at 0 or a tombstone, outside all text, is rejected without warning"
unfoldable pub is_tombstone : List AddressRange → EntryRange → Bool
is_tombstone text r = (eqb r.range.start 0 || r.tombstone) && not (exists (λ t. contains t r.range.start) text)

-- one range is rejected, with these warnings
unfoldable pub rejected : List Warning → State → State
rejected ws s =
    let t = s.stats in
    record {
      table = s.table;
      records = s.records;
      warnings = s.warnings ++ ws;
      stats = record { functions = t.functions; line_rows = t.line_rows; inline_nodes = t.inline_nodes; rejected_ranges = saturated (t.rejected_ranges + 1) };
    }

-- ---- one record

-- an invalid statement sequence warns
abbrev pub sequence_warning : CompilationUnit → Entry → Option ℕ → Bool → Outcome (List Warning)
sequence_warning u e none invalid = done []
sequence_warning u e (some n) false = done []
sequence_warning u e (some n) true = absolute_entry_offset u e.offset >>= λ o. done (about invalid_statement_sequence o n ∷ [])

-- without rows the declaration is looked for
abbrev pub declaration_if : ImportContext → Entry → FileTable → List Warning → List LineEntry → Outcome Declaring
declaration_if q e table ws [] = resolve_declaration_line q.dwarf q.unit e q.lines.files table ws
declaration_if q e table ws (x ∷ xs) = done (record { trail = empty_trail; table = table; warnings = ws; found = none })

-- a declaration that was found is the only row; E7: "a declaration row has 0"
abbrev pub lines_with : AddressRange → Option LineEntry → List LineEntry → List LineEntry
lines_with r none rows = rows
lines_with r (some l) rows = record { address = r.start; file = l.file; line = l.line; column = 0 } ∷ []

-- the root, which bears the function's name and range, above the nodes, where there are any
abbrev pub rooted : List ℕ → AddressRange → List InlineNode → List InlineNode
rooted name r [] = []
rooted name r (n ∷ ns) = record { depth = 0; call_file = file_index 0; call_line = 0; name = name; ranges = r ∷ [] } ∷ n ∷ ns

abbrev pub detail_context : ImportContext → AddressRange → DetailContext
detail_context q r = record {
  dwarf = q.dwarf;
  unit = q.unit;
  function_range = r;
  file_indices = q.lines.files;
  include_inlines = q.include_inlines;
  include_call_sites = q.include_call_sites;
}

-- the record joins the others, and is counted
unfoldable pub add_function : Function → ℕ → State → State
add_function f nodes s =
    let t = s.stats in
    record {
      table = s.table;
      records = s.records ++ (f ∷ []);
      warnings = s.warnings;
      stats = record {
        functions = saturated (t.functions + 1);
        line_rows = saturated (t.line_rows + length f.lines);
        inline_nodes = saturated (t.inline_nodes + nodes);
        rejected_ranges = t.rejected_ranges;
      };
    }

-- a live range of a subprogram becomes a record
unfoldable pub import_range : ImportContext → Entry → List Entry → List ℕ → AddressRange → State → Outcome State
import_range q e below name r s =
    let requested = statement_sequence_offset q.unit e in
    let own = for_range q.lines r requested in
    sequence_warning q.unit e requested own.invalid >>= λ ws.
    declaration_if q e s.table (s.warnings ++ ws) own.rows >>= λ d.
    extract_subprogram_details (detail_context q r) below >>= λ x.
    done (add_function
    (record { range = r; name = name; lines = lines_with r d.found own.rows; inline = rooted name r x.inlines; call_sites = x.call_sites })
    (length x.inlines)
    (record { table = d.table; records = s.records; warnings = d.warnings ++ x.warnings; stats = s.stats }))

-- ---- subprograms

unfoldable pub import_ranges : ImportContext → Entry → List Entry → List ℕ → List EntryRange → State → Outcome State
import_ranges q e below name [] s = done s
import_ranges q e below name (r ∷ rs) s =
    cond (is_tombstone q.unit.text r) (import_ranges q e below name rs (rejected [] s))
    (cond (is_live_range q.unit.text r.range) (import_range q e below name r.range s >>= import_ranges q e below name rs)
    (import_ranges q e below name rs (rejected (about rejected_range r.range.start r.range.end ∷ []) s)))

-- a failure before any range leaves none; one after them warns when they are done
abbrev pub import_by_failure : ImportContext → Entry → List Entry → List ℕ → Option RangeFailure → State → Outcome State
import_by_failure q e below name none s = import_ranges q e below name (die_ranges q.dwarf e).given s
import_by_failure q e below name (some f) s =
    cond (eqb f.stage 0) (done (rejected (malformed_ranges false f.reason ∷ []) s))
    (import_ranges q e below name (die_ranges q.dwarf e).given s >>= λ t. done (rejected (malformed_ranges true f.reason ∷ []) t))

-- names come before ranges: a nameless subprogram gives no warning and no count
unfoldable pub import_subprogram : ImportContext → Entry → List Entry → State → Outcome State
import_subprogram q e below s = resolve_name q.dwarf q.unit e >>= λ name.
    cond (is_empty name) (done s) (import_by_failure q e below name (die_ranges q.dwarf e).failure s)

-- DW_TAG_subprogram
abbrev pub is_subprogram : Entry → Bool
is_subprogram e = eqb e.tag dw_tag_subprogram

-- the entries below one of this depth, of those that follow it
unfoldable pub descendants_of : ℕ → List Entry → List Entry
descendants_of depth es = take_while (λ x. ltb depth x.depth) es

-- import_unit_details
unfoldable pub import_unit_details : ImportContext → List Entry → State → Outcome State
import_unit_details q [] s = done s
import_unit_details q (e ∷ es) s =
    cond (is_subprogram e)
    (import_subprogram q e (descendants_of e.depth es) s >>= import_unit_details q es)
    (import_unit_details q es s)

-- import_unit, over the unit's part of the program
unfoldable pub import_unit : Dwarf → CompilationUnit → List ℕ → Bool → Bool → State → Outcome State
import_unit d u program inlines call_sites s =
    collect_lines u (program_of u program) s.table >>= λ c.
    import_unit_details (record { dwarf = d; unit = u; lines = c.lines; include_inlines = inlines; include_call_sites = call_sites }) u.entries
    (record { table = c.table; records = s.records; warnings = s.warnings ++ c.warnings; stats = s.stats })

-- import_dwarf, as far as units that are not split go (document 02, E11): "the unit imports one after another, each beginning with the file table the last
-- one left; trays and statistics are joined and added. The first refused unit refuses all"
unfoldable pub import_units : Dwarf → List CompilationUnit → List ℕ → Bool → Bool → State → Outcome State
import_units d [] program inlines call_sites s = done s
import_units d (u ∷ us) program inlines call_sites s = import_unit d u program inlines call_sites s >>= import_units d us program inlines call_sites
