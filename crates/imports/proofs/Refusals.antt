-- Every refusal of an import has one of document 01's numbers, 1 to 18, or of document 02's, 21 and 22 (E8) and 23 to 25 (E9), and by its stage: 2 and 3 the
-- grammar, 6 to 15 and 21 to 25 a unit, 16 to 18 the trays.
use mathlib.Core.Path.{◌≡◌, refl}
use Prim.Native.Nat.{ℕ, ◌+◌, ◌≤◌}
use native.Mathlib.Omega.{arith}
use mathlib.Core.Logic.{◌⊎◌, inl, inr}
use mathlib.Core.Bool.{Bool, true, false, cond, ◌&&◌, ◌||◌}
use mathlib.Core.List.{List, [], ◌∷◌, ◌++◌}
use mathlib.Core.Option.{Option, none, some}
use lib.ListN.{length}
use lib.Dec.{ltb, eqb}
use Rattle.tlv.specs.declared.model.AddressRange.{AddressRange}
use Rattle.tlv.specs.declared.model.FileIndex.{FileIndex}
use Rattle.tlv.specs.declared.model.LineEntry.{LineEntry}
use Rattle.tlv.specs.Outcome.{Outcome, refused}
use Rattle.tlv.specs.Lists.{at, is_empty, is_none}
use Rattle.tlv.specs.Model.{CompilationUnit, Entry, EntryRange, Attribute, RangeFailure, units, program_of}
use Rattle.tlv.proofs.RefusalLaws.{RefusesIn, never, refuses-wider, refusing, refuses-input}
use Rattle.buffers.specs.Output.{Warning}
use Rattle.lines.specs.Files.{FileTable, get}
use Rattle.lines.specs.Rows.{for_range}
use Rattle.machine.proofs.NumberLaws.{Refuses, by_number, not-refused, number-cond, number_of, number_in, number-among, number-bind}
use Rattle.machine.proofs.UnitLines.{LineNumbers, refuses-lines}
use Rattle.rnglists.proofs.DieRangeLaws.{FaultNumber, die-refusal}
use Rattle.references.specs.Search.{Dwarf, attribute, unsigned_attribute, file_index_attribute}
use Rattle.references.proofs.Refusals.{refuses-offset, refuses-name, refuses-reference_name, refuses-declaration_line}
use Rattle.imports.specs.Tree.{die_ranges, DetailContext, Descendants, site_with_origin, site_at, make_call_site, call_file_from, call_file_if, call_file_of, call_line_if, call_line_of, push_inline, make_inline_node, is_call_site, is_inlined, collect_entry, collect_entries, no_descendants, collect_descendants, extract_subprogram_details}
use Rattle.imports.specs.Import.{State, ImportContext, statement_sequence_offset, is_live_range, is_tombstone, sequence_warning, declaration_if, detail_context, import_range, import_ranges, import_by_failure, import_subprogram, is_subprogram, import_unit_details, import_unit, import_units}
use Rattle.imports.specs.Answer.{Inputs, Written, written, oversize, work_needed, initial_state, dwarf_of, import_worked, is_bare, import_chosen, checked, import_of, import_dwarf_of, fitting, outcome_of}
use Rattle.imports.specs.Sizes.{EarlyNumber}
use Rattle.imports.specs.Demand.{RefusalNumber, Refusals, DwarfRefusals}

-- ---- 6 to 15, and 21 to 25

abbrev pub UnitNumber : ℕ → Type 0
UnitNumber n = ((6 ≤ n) × (n ≤ 15)) ⊎ ((21 ≤ n) × (n ≤ 25))

base-number : {A : Type 0} (lo hi : ℕ) → 6 ≤ lo → hi ≤ 15 → {x : Outcome A} → RefusesIn lo hi x → Refuses UnitNumber x
base-number lo hi h k = number_in lo hi (λ n p q. inl (omega arith, omega arith))

fault-number : (n : ℕ) → (n ≡ 6) ⊎ FaultNumber n → UnitNumber n
fault-number n (inl e) = inl (omega arith, omega arith)
fault-number n (inr (inl p)) = inl (omega (arith, p.0), omega (arith, p.1))
fault-number n (inr (inr p)) = inr (omega (arith, p.0), p.1)

line-number : (n : ℕ) → LineNumbers n → UnitNumber n
line-number n (inl p) = inl p
line-number n (inr p) = inr (p.0, omega (arith, p.1))

-- ---- below a subprogram: 6 to 14, and a list's fault

module _ (c : DetailContext) where
  pub refuses-call_site : (e : Entry) → RefusesIn 6 13 (make_call_site c e)
  unfolding make_call_site
  refuses-call_site e = go (attribute e 0x7d)
    where
      origin : (offset : ℕ) (o : Option Attribute) → RefusesIn 6 13 (site_with_origin c e offset o)
      origin offset none = never
      origin offset (some a) = search (refusing, refuses-reference_name)

      go : (o : Option Attribute) → RefusesIn 6 13 (site_at c e o)
      go none = never
      go (some a) = search (refusing, origin)

  refuses-call_file : (e : Entry) → RefusesIn 12 12 (call_file_of c e)
  unfolding call_file_of
  refuses-call_file e = go (file_index_attribute e 0x58)
    where
      from : (n : ℕ) (o : Option FileIndex) → RefusesIn 12 12 (call_file_from c e n o)
      from n none = search (refusing, refuses-offset)
      from n (some i) = never

      go : (o : Option ℕ) → RefusesIn 12 12 (call_file_if c e o)
      go none = never
      go (some n) = from n (get c.file_indices n)

  refuses-call_line : (e : Entry) → RefusesIn 12 12 (call_line_of c e)
  unfolding call_line_of
  refuses-call_line e = go (unsigned_attribute e 0x59)
    where
      go : (o : Option ℕ) → RefusesIn 12 12 (call_line_if c e o)
      go none = never
      go (some n) = search (refusing, refuses-offset)

  refuses-push : (e : Entry) (name : List ℕ) (rs : List AddressRange) (w : Descendants) → RefusesIn 12 14 (push_inline c e name rs w)
  unfolding push_inline
  refuses-push e name [] w = never
  refuses-push e name (r ∷ rs) w = search (refusing, refuses-wider 12 12, refuses-call_file, refuses-call_line)

  -- a range failure: 6, or the fault of a list
  refuses-ranges_of : (e : Entry) (x : Outcome Descendants) → Refuses UnitNumber x
      → Refuses UnitNumber (cond (is_none (die_ranges c.dwarf e).failure) x (refused (die_ranges c.dwarf e).refusal))
  unfolding die_ranges
  refuses-ranges_of e x h = go (is_none (die_ranges c.dwarf e).failure) refl
    where
      go : (b : Bool) → is_none (die_ranges c.dwarf e).failure ≡ b → Refuses UnitNumber (cond b x (refused (die_ranges c.dwarf e).refusal))
      go true q = h
      go false q = by_number (fault-number _ (die-refusal c.dwarf.lists c.dwarf.addresses e q))

  refuses-node : (e : Entry) (w : Descendants) → Refuses UnitNumber (make_inline_node c e w)
  unfolding make_inline_node
  refuses-node e w =
      number-bind (base-number 6 13 (omega arith) (omega arith) (refuses-name c.dwarf c.unit e)) λ name.
      number-cond (is_empty name) not-refused
      (refuses-ranges_of e _ (base-number 12 14 (omega arith) (omega arith) (refuses-push e name _ w)))

  refuses-collect_entry : (e : Entry) (w : Descendants) → Refuses UnitNumber (collect_entry c e w)
  unfolding collect_entry
  refuses-collect_entry e w =
      number-cond (c.include_call_sites && is_call_site e)
      (number-bind (base-number 6 13 (omega arith) (omega arith) (refuses-call_site e)) λ s. not-refused)
      (number-cond (c.include_inlines && is_inlined e) (refuses-node e w) not-refused)

  refuses-collect_entries : (es : List Entry) (w : Descendants) → Refuses UnitNumber (collect_entries c es w)
  unfolding collect_entries
  refuses-collect_entries [] w = not-refused
  refuses-collect_entries (e ∷ es) w = number-bind (refuses-collect_entry e _) (refuses-collect_entries es)

  pub refuses-details : (below : List Entry) → Refuses UnitNumber (extract_subprogram_details c below)
  unfolding extract_subprogram_details collect_descendants
  refuses-details below =
      number-cond (c.include_inlines || c.include_call_sites) (number-bind (refuses-collect_entries below no_descendants) λ w. not-refused) not-refused

-- ---- a unit

refuses-sequence_warning : (u : CompilationUnit) (e : Entry) (o : Option ℕ) (invalid : Bool) → RefusesIn 12 12 (sequence_warning u e o invalid)
refuses-sequence_warning u e none invalid = never
refuses-sequence_warning u e (some n) false = never
refuses-sequence_warning u e (some n) true = search (refusing, refuses-offset)

module _ (q : ImportContext) where
  refuses-declaration_if : (e : Entry) (table : FileTable) (ws : List Warning) (rows : List LineEntry) → RefusesIn 6 15 (declaration_if q e table ws rows)
  refuses-declaration_if e table ws [] = search refuses-declaration_line
  refuses-declaration_if e table ws (x ∷ xs) = never

  module _ (e : Entry) (below : List Entry) where
    refuses-range : (name : List ℕ) (r : AddressRange) (s : State) → Refuses UnitNumber (import_range q e below name r s)
    unfolding import_range
    refuses-range name r s =
        let requested = statement_sequence_offset q.unit e in
        let own = for_range q.lines r requested in
        number-bind (base-number 12 12 (omega arith) (omega arith) (refuses-sequence_warning q.unit e requested own.invalid)) λ ws.
        number-bind (base-number 6 15 (omega arith) (omega arith) (refuses-declaration_if e s.table (s.warnings ++ ws) own.rows)) λ d.
        number-bind (refuses-details (detail_context q r) below) λ x. not-refused

    refuses-ranges : (name : List ℕ) (rs : List EntryRange) (s : State) → Refuses UnitNumber (import_ranges q e below name rs s)
    unfolding import_ranges
    refuses-ranges name [] s = not-refused
    refuses-ranges name (r ∷ rs) s =
        let later = refuses-ranges name rs in
        number-cond (is_tombstone q.unit.text r) (later _)
        (number-cond (is_live_range q.unit.text r.range) (number-bind (refuses-range name r.range s) later) (later _))

    refuses-by-failure : (name : List ℕ) (o : Option RangeFailure) (s : State) → Refuses UnitNumber (import_by_failure q e below name o s)
    refuses-by-failure name none s = refuses-ranges name _ s
    refuses-by-failure name (some f) s = number-cond (eqb f.stage 0) not-refused (number-bind (refuses-ranges name _ s) λ t. not-refused)

    pub refuses-subprogram : (s : State) → Refuses UnitNumber (import_subprogram q e below s)
    unfolding import_subprogram
    refuses-subprogram s =
        number-bind (base-number 6 13 (omega arith) (omega arith) (refuses-name q.dwarf q.unit e)) λ name.
        number-cond (is_empty name) not-refused (refuses-by-failure name (die_ranges q.dwarf e).failure s)

  refuses-unit_details : (es : List Entry) (s : State) → Refuses UnitNumber (import_unit_details q es s)
  unfolding import_unit_details
  refuses-unit_details [] s = not-refused
  refuses-unit_details (e ∷ es) s =
      let later = refuses-unit_details es in
      number-cond (is_subprogram e) (number-bind (refuses-subprogram e _ s) later) (later s)

pub refuses-unit : (d : Dwarf) (u : CompilationUnit) (program : List ℕ) (inlines call_sites : Bool) (s : State)
    → Refuses UnitNumber (import_unit d u program inlines call_sites s)
unfolding import_unit
refuses-unit d u program inlines call_sites s =
    number-bind (number-among line-number (refuses-lines u (program_of u program) s.table)) λ c. refuses-unit_details _ _ _

-- ---- the whole: 1 to 15, 21 to 25, then 16 to 18

early : (lo hi : ℕ) → 1 ≤ lo → hi ≤ 15 → (n : ℕ) → lo ≤ n → n ≤ hi → EarlyNumber n
early lo hi h k n p q = inl (omega arith, omega arith)

unit-early : (n : ℕ) → UnitNumber n → EarlyNumber n
unit-early n (inl p) = inl (omega (arith, p.0), p.1)
unit-early n (inr p) = inr p

early_any : (n : ℕ) → EarlyNumber n → RefusalNumber n
early_any n (inl p) = inl (p.0, omega (arith, p.1))
early_any n (inr p) = inr p

refuses-units : (d : Dwarf) (us : List CompilationUnit) (program : List ℕ) (inlines call_sites : Bool) (s : State)
    → Refuses UnitNumber (import_units d us program inlines call_sites s)
unfolding import_units
refuses-units d [] program inlines call_sites s = not-refused
refuses-units d (u ∷ us) program inlines call_sites s =
    number-bind (refuses-unit d u program inlines call_sites s) (refuses-units d us program inlines call_sites)

refuses-worked : (i : Inputs) (n : ℕ) (us : List CompilationUnit) → Refuses EarlyNumber (import_worked i n us)
refuses-worked i n us =
    number-cond (ltb (length i.work) (work_needed i n us)) (by_number (inl (omega arith, omega arith)))
    (number-among unit-early (refuses-units (dwarf_of i) us i.program i.inlines i.call_sites (initial_state i)))

refuses-checked : (i : Inputs) (rest : ℕ → Outcome State) → ((n : ℕ) → Refuses EarlyNumber (rest n)) → Refuses EarlyNumber (checked i rest)
unfolding checked
refuses-checked i rest h =
    let k = length i.program in
    number-cond (oversize i) (by_number (inl (omega arith, omega arith)))
    (number-bind (number_in 2 3 (early 2 3 (omega arith) (omega arith)) (refuses-input k i.main)) λ m.
    number-bind (number_in 2 3 (early 2 3 (omega arith) (omega arith)) (refuses-input k i.supplementary)) λ s.
    h (m + s))

pub refuses-import : (i : Inputs) → Refuses EarlyNumber (import_of i)
unfolding import_of
refuses-import i = refuses-checked i _ (λ n. go n (at (units i.main) i.ordinal))
  where
    go : (n : ℕ) (o : Option CompilationUnit) → Refuses EarlyNumber (import_chosen i n o)
    go n none = number-cond (is_bare i) (refuses-worked i n []) (by_number (inl (omega arith, omega arith)))
    go n (some u) = refuses-worked i n (u ∷ [])

pub refuses-dwarf : (i : Inputs) → Refuses EarlyNumber (import_dwarf_of i)
unfolding import_dwarf_of
refuses-dwarf i = refuses-checked i _ (λ n. refuses-worked i n (units i.main))

pub refuses-fitting : (i : Inputs) (w : Written) → RefusesIn 16 18 (fitting i w)
unfolding fitting
refuses-fitting i w = search refusing

pub refuses-outcome : (i : Inputs) (o : Outcome State) → Refuses EarlyNumber o → Refuses RefusalNumber (outcome_of i o)
unfolding outcome_of
refuses-outcome i o h =
    number-bind (number-among early_any h) λ s.
    number_in 16 18 (λ n p q. inl (omega arith, q)) (refuses-fitting i (written s))

-- every refusal is one of these numbers
pub refusals : Refusals
refusals i n e = number_of (refuses-outcome i (import_of i) (refuses-import i)) e

pub dwarf-refusals : DwarfRefusals
dwarf-refusals i n e = number_of (refuses-outcome i (import_dwarf_of i) (refuses-dwarf i)) e
