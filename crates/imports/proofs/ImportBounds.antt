-- Whatever an import is done with fits the trays' fields (`Producing`).
use mathlib.Core.Path.{◌≡◌, refl}
use mathlib.Core.Bool.{Bool, true, false, ◌&&◌, ◌||◌, not}
use mathlib.Core.List.{List, [], ◌∷◌, ◌++◌}
use mathlib.Core.Option.{Option, none, some}
use Prim.Native.Nat.{ℕ, ◌+◌, ◌*◌, ◌-◌, ◌^◌, ◌≤◌, ◌<◌}
use native.Mathlib.Omega.{arith}
use borrow.Author.Tests.{ltb-false}
use lib.ListN.{length, length-take, length-drop}
use lib.Dec.{ltb, eqb}
use Rattle.tlv.specs.declared.model.AddressRange.{AddressRange}
use Rattle.tlv.specs.declared.model.LineEntry.{LineEntry}
use Rattle.tlv.specs.Outcome.{Outcome}
use Rattle.tlv.specs.Lists.{All, at, is_empty}
use Rattle.tlv.specs.Limits.{input_limit, program_limit, list_limit}
use Rattle.tlv.specs.Grammar.{check_input}
use Rattle.tlv.specs.Model.{CompilationUnit, Entry, EntryRange, Attribute, RangeFailure, ProgramPart, program_part, program_of, units}
use Rattle.tlv.specs.Accepted.{Small, String, Given, AttributeAccepted, FailureAccepted, EntryAccepted, UnitAccepted}
use Rattle.tlv.proofs.TestLaws.{by_test, or_neither}
use Rattle.tlv.proofs.ListLaws.{any_one, all_append, all-take_while, all-at}
use Rattle.tlv.proofs.OutcomeLaws.{Gives, gives, gives_none, gives-cond, gives_of, gives-bind, given}
use Rattle.tlv.proofs.AcceptedUnits.{accepting}
use Rattle.buffers.specs.Output.{Function, Warning, malformed_ranges, about, rejected_range, warning_payload}
use Rattle.buffers.specs.Fits.{RangeFits, LineFits, FunctionFits, WarningFits}
use Rattle.buffers.proofs.PayloadLaws.{function-length}
use Rattle.lines.specs.Files.{FileTable}
use Rattle.lines.specs.Rows.{for_range}
use Rattle.lines.proofs.Bounds.{TableFits, LinesFit}
use Rattle.lines.proofs.RowLaws.{rows_fit}
use Rattle.machine.proofs.UnitLines.{gives-lines}
use Rattle.rnglists.proofs.DieRangeLaws.{die-small, die-failure}
use Rattle.references.specs.Search.{Dwarf, attribute}
use Rattle.references.proofs.NameBounds.{DwarfAccepted, attribute-accepted, absolute-small, gives-name}
use Rattle.references.proofs.DeclarationBounds.{FoundFits, DeclaringFits, gives-declaration}
use Rattle.imports.specs.Tree.{die_ranges, Descendants}
use Rattle.imports.specs.Import.{State, ImportContext, sequence_if, statement_sequence_offset, is_live_range, is_tombstone, rejected, sequence_warning, declaration_if, lines_with, rooted, detail_context, add_function, import_range, import_ranges, import_by_failure, import_subprogram, is_subprogram, descendants_of, import_unit_details, import_unit, import_units}
use Rattle.imports.specs.Answer.{Inputs, oversize, work_needed, initial_state, dwarf_of, import_worked, is_bare, import_chosen, checked, import_of}
use Rattle.imports.specs.Answer.{import_dwarf_of}
use Rattle.imports.specs.Demand.{Lent, Producing, DwarfProducing}
use Rattle.imports.proofs.Subjects.{live-range}
use Rattle.imports.proofs.NodeBounds.{rooted-fits}
use Rattle.imports.proofs.TreeBounds.{DetailsFit, details_fit}

-- what is left behind fits, and the file table can be added to
record ImportFits (s : State) : Type 0 where
  table : TableFits s.table
  records : All FunctionFits s.records
  warnings : All WarningFits s.warnings

-- what the import of a unit is given
record ImportAccepted (q : ImportContext) : Type 0 where
  dwarf : DwarfAccepted q.dwarf
  unit : UnitAccepted q.unit
  lines : LinesFit q.lines

-- ---- warnings

rejected-fits : (ws : List Warning) (s : State) → All WarningFits ws → ImportFits s → ImportFits (rejected ws s)
unfolding rejected
rejected-fits ws s h f = record { table = f.table; records = f.records; warnings = all_append WarningFits s.warnings ws f.warnings h }

malformed_fits : (stopped : Bool) (f : RangeFailure) → FailureAccepted f → WarningFits (malformed_ranges stopped f.reason)
unfolding warning_payload
malformed_fits stopped f h = omega (arith, h.short)

sequence-small : (u : CompilationUnit) (o : Option Attribute) → Given AttributeAccepted o → Given (λ v. v < 2 ^ 64) (sequence_if u o)
sequence-small u none h = tt
sequence-small u (some a) h =
    by_test (Given (λ v. v < 2 ^ 64)) ((eqb a.kind 1 || eqb a.kind 7 || eqb a.kind 8) && not (eqb a.value (2 ^ (8 * u.word_size) - 1))) (λ e. h.value) (λ e. tt)

sequence-fits : (u : CompilationUnit) (e : Entry) (o : Option ℕ) (invalid : Bool) → Given (λ v. v < 2 ^ 64) o → Gives (All WarningFits) (sequence_warning u e o invalid)
sequence-fits u e none invalid h = gives tt
sequence-fits u e (some n) false h = gives tt
sequence-fits u e (some n) true h = gives-bind (absolute-small u e.offset) λ o small. gives ((small, h), tt)

-- ---- one record

-- a live range ends where a range of text ends, or before
live-fits : (text : List AddressRange) (r : AddressRange) → All Small text → is_live_range text r ≡ true → RangeFits r
live-fits text r h e = let l = live-range text r e in record { filled = l.filled; small = any_one text (λ t s i. omega arith) h l.in_text }

lines_fit : (r : AddressRange) (found : Option LineEntry) (rows : List LineEntry) → RangeFits r → Given FoundFits found → All LineFits rows → All LineFits (lines_with r found rows)
lines_fit r none rows h f k = k
lines_fit r (some l) rows h f k = (record { address = omega (arith, h.filled, h.small); file = f.file; line = f.line; column = omega arith }, tt)

module _ (r : AddressRange) (name : List ℕ) (lines : List LineEntry) (x : Descendants) where
  abbrev function : Function
  function = record { range = r; name = name; lines = lines; inline = rooted name r x.inlines; call_sites = x.call_sites }

  function-fits : RangeFits r → String name → All LineFits lines → DetailsFit x → FunctionFits function
  function-fits h s l d = record {
    range = h;
    short = omega (arith, s.1, function-length r name);
    lines = l;
    inline = rooted-fits name r x.inlines s h d.inlines;
    call_sites = d.call_sites;
  }

module _ (q : ImportContext) (accepted : ImportAccepted q) where
  declaration_if-fits : (e : Entry) (table : FileTable) (ws : List Warning) (rows : List LineEntry) → EntryAccepted q.unit.length e
      → TableFits table → All WarningFits ws → Gives DeclaringFits (declaration_if q e table ws rows)
  declaration_if-fits e table ws [] h k w =
      gives-declaration q.dwarf accepted.dwarf q.unit e q.lines.files table ws accepted.unit h accepted.lines.files k w
  declaration_if-fits e table ws (x ∷ xs) h k w = gives (record { table = k; warnings = w; found = tt })

  module _ (e : Entry) (below : List Entry) (entry : EntryAccepted q.unit.length e) (entries : All (EntryAccepted q.unit.length) below) where
    module _ (name : List ℕ) (string : String name) where
      range-fits : (r : AddressRange) (s : State) → RangeFits r → ImportFits s → Gives ImportFits (import_range q e below name r s)
      unfolding import_range add_function statement_sequence_offset
      range-fits r s h f =
          let asked = statement_sequence_offset q.unit e in
          let own = for_range q.lines r asked in
          gives-bind (sequence-fits q.unit e asked own.invalid (sequence-small q.unit (attribute e 0x3e0c) (attribute-accepted e 0x3e0c entry))) λ ws w.
          gives-bind (declaration_if-fits e s.table (s.warnings ++ ws) own.rows entry f.table (all_append WarningFits s.warnings ws f.warnings w)) λ d k.
          gives-bind (details_fit (detail_context q r) (record { dwarf = accepted.dwarf; unit = accepted.unit; range = h; files = accepted.lines.files }) below entries) λ x g.
          let lines = lines_fit r d.found own.rows h k.found (rows_fit q.lines r asked accepted.lines (omega (arith, h.small)) h.filled) in
          gives (record {
            table = k.table;
            records = all_append FunctionFits s.records (function r name (lines_with r d.found own.rows) x ∷ []) f.records (function-fits r name (lines_with r d.found own.rows) x h string lines g, tt);
            warnings = all_append WarningFits d.warnings x.warnings k.warnings g.warnings;
          })

      ranges-fit : (rs : List EntryRange) (s : State) → All (λ r. Small r.range) rs → ImportFits s → Gives ImportFits (import_ranges q e below name rs s)
      unfolding import_ranges
      ranges-fit [] s h f = gives f
      ranges-fit (r ∷ rs) s h f =
          let later = ranges-fit rs in
          gives-cond (is_tombstone q.unit.text r) (λ t. later (rejected [] s) h.1 (rejected-fits [] s tt f)) λ t.
          gives-cond (is_live_range q.unit.text r.range)
          (λ l. gives-bind (range-fits r.range s (live-fits q.unit.text r.range accepted.unit.text l) f) λ x g. later x h.1 g)
          (λ l. later _ h.1 (rejected-fits (about rejected_range r.range.start r.range.end ∷ []) s (h.0, tt) f))

      given-fit : (s : State) → ImportFits s → Gives ImportFits (import_ranges q e below name (die_ranges q.dwarf e).given s)
      unfolding die_ranges
      given-fit s f = ranges-fit (die_ranges q.dwarf e).given s (die-small q.dwarf.lists q.dwarf.addresses e entry) f

      by_failure_fits : (o : Option RangeFailure) (s : State) → Given FailureAccepted o → ImportFits s → Gives ImportFits (import_by_failure q e below name o s)
      by_failure_fits none s h f = given-fit s f
      by_failure_fits (some x) s h f = gives-cond (eqb x.stage 0)
          (λ b. gives (rejected-fits (malformed_ranges false x.reason ∷ []) s (malformed_fits false x h, tt) f))
          (λ b. gives-bind (given-fit s f) λ t g. gives (rejected-fits (malformed_ranges true x.reason ∷ []) t (malformed_fits true x h, tt) g))

    subprogram-fits : (s : State) → ImportFits s → Gives ImportFits (import_subprogram q e below s)
    unfolding import_subprogram die_ranges
    subprogram-fits s f = gives-bind (gives-name q.dwarf accepted.dwarf q.unit e accepted.unit entry) λ name string.
        gives-cond (is_empty name) (λ b. gives f) (λ b. by_failure_fits name string (die_ranges q.dwarf e).failure s (die-failure q.dwarf.lists q.dwarf.addresses e entry) f)

  -- ---- a unit

  details_of-unit_fit : (es : List Entry) (s : State) → All (EntryAccepted q.unit.length) es → ImportFits s → Gives ImportFits (import_unit_details q es s)
  unfolding import_unit_details descendants_of
  details_of-unit_fit [] s h f = gives f
  details_of-unit_fit (e ∷ es) s h f =
      let later = details_of-unit_fit es in
      gives-cond (is_subprogram e)
      (λ b. gives-bind (subprogram-fits e (descendants_of e.depth es) h.0 (all-take_while (EntryAccepted q.unit.length) (λ x. ltb e.depth x.depth) es h.1) s f) λ x g. later x h.1 g)
      (λ b. later s h.1 f)

-- a part is no longer than the program
part-shorter : (u : CompilationUnit) (program : List ℕ) → length (program_of u program) ≤ length program
unfolding program_of
part-shorter u program = go u.part
  where
    go : (o : Option ProgramPart) → length (program_part o program) ≤ length program
    go none = omega arith
    go (some p) = simp (length-take, length-drop) (omega arith)

unit-fits : (d : Dwarf) (u : CompilationUnit) (program : List ℕ) (inlines call_sites : Bool) (s : State)
    → DwarfAccepted d → UnitAccepted u → length program < 2 ^ 64 → ImportFits s → Gives ImportFits (import_unit d u program inlines call_sites s)
unfolding import_unit
unit-fits d u program inlines call_sites s dwarf unit short f =
    gives-bind (gives-lines u (program_of u program) s.table unit (omega (arith, unit.few)) (omega (arith, part-shorter u program)) f.table) λ c k.
    details_of-unit_fit (record { dwarf = d; unit = u; lines = c.lines; include_inlines = inlines; include_call_sites = call_sites }) (record { dwarf = dwarf; unit = unit; lines = k.lines }) u.entries _ unit.entries
    (record { table = k.table; records = f.records; warnings = all_append WarningFits s.warnings c.warnings f.warnings k.warnings })

-- ---- the import

or-first : (a b : Bool) → (a || b) ≡ false → a ≡ false
or-first true b e = e
or-first false b e = refl

program-short : (i : Inputs) → oversize i ≡ false → length i.program ≤ program_limit
unfolding oversize
program-short i e =
    let inputs = ltb input_limit (length i.main) || ltb input_limit (length i.supplementary) in
    let program = ltb program_limit (length i.program) in
    let lists = ltb list_limit (length i.lists) in
    ltb-false program_limit (length i.program) (or_neither inputs program (or-first (inputs || program) lists (or-first (inputs || program || lists) (ltb list_limit (length i.addresses)) e)))

module _ (i : Inputs) (lent : Lent i) where
  begun : ImportFits (initial_state i)
  unfolding initial_state
  begun = record { table = record { few = omega (arith, lent.first_file); files = tt }; records = tt; warnings = tt }

  module _ (dwarf : DwarfAccepted (dwarf_of i)) (short : length i.program ≤ program_limit) where
    units-fit : (us : List CompilationUnit) (s : State) → All UnitAccepted us → ImportFits s
        → Gives ImportFits (import_units (dwarf_of i) us i.program i.inlines i.call_sites s)
    unfolding import_units
    units-fit [] s h f = gives f
    units-fit (u ∷ us) s h f =
        let later = units-fit us in
        gives-bind (unit-fits (dwarf_of i) u i.program i.inlines i.call_sites s dwarf h.0 (omega arith) f) λ t g. later t h.1 g

    worked_fits : (n : ℕ) (us : List CompilationUnit) → All UnitAccepted us → Gives ImportFits (import_worked i n us)
    worked_fits n us h = gives-cond (ltb (length i.work) (work_needed i n us)) (λ e. gives_none) (λ e. units-fit us (initial_state i) h begun)

    chosen-fits : (n : ℕ) (o : Option CompilationUnit) → Given UnitAccepted o → Gives ImportFits (import_chosen i n o)
    chosen-fits n none h = gives-cond (is_bare i) (λ e. worked_fits n [] tt) (λ e. gives_none)
    chosen-fits n (some u) h = worked_fits n (u ∷ []) (h, tt)

  checked-fits : (rest : ℕ → Outcome State)
      → ((n : ℕ) → DwarfAccepted (dwarf_of i) → length i.program ≤ program_limit → Gives ImportFits (rest n)) → Gives ImportFits (checked i rest)
  unfolding checked dwarf_of
  checked-fits rest h =
      let l = length i.program in
      gives-cond (oversize i) (λ e. gives_none) λ e.
      gives-bind (gives_of (check_input l i.main) λ m k. accepting i.main m lent.main (record { program = l; passes = k })) λ m main.
      gives-bind (gives_of (check_input l i.supplementary)
      λ s k. accepting i.supplementary s lent.supplementary (record { program = l; passes = k })) λ s supplementary.
      h (m + s) (record { main = main; supplementary = supplementary }) (program-short i e)

  gives-fitting : Gives ImportFits (import_of i)
  unfolding import_of dwarf_of
  gives-fitting = checked-fits _ (λ n dwarf short.
      chosen-fits dwarf short n (at (units i.main) i.ordinal) (all-at UnitAccepted (units i.main) i.ordinal dwarf.main))

  dwarf-fitting : Gives ImportFits (import_dwarf_of i)
  unfolding import_dwarf_of dwarf_of
  dwarf-fitting = checked-fits _ (λ n dwarf short. worked_fits dwarf short n (units i.main) dwarf.main)

-- everything that an import leaves behind fits the trays' fields
pub producing : Producing
producing i s lent e = let f = given (gives-fitting i lent) e in record { records = f.records; files = f.table.files; warnings = f.warnings }

pub dwarf-producing : DwarfProducing
dwarf-producing i s lent e = let f = given (dwarf-fitting i lent) e in record { records = f.records; files = f.table.files; warnings = f.warnings }
