-- Theorem. Demand 3 whole, and that trays can be read back: what holds of every import that is done, for every input.
use Rattle.std.specs.Prelude.{ℕ, suc, ◌-◌, ◌^◌, ◌≤◌, ◌<◌, ◌≡◌, ◌↔◌, ◌⊎◌, ◌≢◌, Bool, true, false, cond, ◌&&◌, not, List, [], ◌∷◌, ◌++◌, map}
use Rattle.std.specs.Prelude.{length, get_or, take, drop, eqb}
use Rattle.std.proofs.Math.Option.{Option, none, some}
use Rattle.tlv.specs.Constants.{dw_tag_call_site, dw_tag_inlined_subroutine, dw_tag_subprogram}
use Rattle.tlv.specs.declared.model.AddressRange.{AddressRange}
use Rattle.tlv.specs.Addresses.{Nonempty, Inside}
use Rattle.tlv.specs.Outcome.{Outcome, refused, done}
use Rattle.tlv.specs.Lists.{Any, All, filter, at, is_empty}
use Rattle.tlv.specs.Bytes.{Bytes}
use Rattle.tlv.specs.Model.{CompilationUnit, Entry, RangeFailure, units}
use Rattle.tlv.specs.Accepted.{UnitAccepted}
use Rattle.buffers.specs.Output.{InlineNode, CallSite, Function}
use Rattle.buffers.specs.Reader.{read_records, read_files, read_warnings}
use Rattle.buffers.specs.Fits.{FunctionFits, FileFits, WarningFits}
use Rattle.lines.specs.RowsAgree.{RowsAgree}
use Rattle.references.specs.Search.{Dwarf, resolve_name}
use Rattle.imports.specs.Tree.{die_ranges, ranges_of, DetailContext, Descendants, make_call_site, extract_subprogram_details}
use Rattle.imports.specs.Import.{State, is_live_range, is_subprogram, descendants_of, rooted, import_unit}
use Rattle.imports.specs.Answer.{Inputs, dwarf_of, import_of, import_dwarf_of, outcome_of, After, after, after_dwarf}
use Rattle.imports.specs.Agree.{TreeEntry, found_name, tree_entries, entry, Below, TreeNode, tree_node, TreeAgrees, TooDeep}

-- ---- the subjects of a unit, in order: a subprogram's entry that has a name, and one of its live ranges

pub record Subject : Type 0 where
  pub number : ℕ  -- of the entry
  pub range : AddressRange

-- the ranges that were read: none where reading failed before any
abbrev pub read_ranges : Dwarf → Entry → Option RangeFailure → List AddressRange
read_ranges d e none = ranges_of d e
read_ranges d e (some f) = cond (eqb f.stage 0) [] (ranges_of d e)

-- the subjects of entry number n
unfoldable pub subjects_of : Dwarf → CompilationUnit → ℕ → Entry → List Subject
subjects_of d u n e =
    cond (is_subprogram e && not (is_empty (found_name (resolve_name d u e))))
    (map (λ r. record { number = n; range = r }) (filter (is_live_range u.text) (read_ranges d e (die_ranges d e).failure)))
    []

unfoldable pub subjects_from : Dwarf → CompilationUnit → ℕ → List Entry → List Subject
subjects_from d u n [] = []
subjects_from d u n (e ∷ es) = subjects_of d u n e ++ subjects_from d u (suc n) es

unfoldable pub subjects : Dwarf → CompilationUnit → List Subject
subjects d u = subjects_from d u 0 u.entries

-- ---- a record answers for a subject

-- "A range of 4,294,967,295 bytes in text is live, one byte more is not, an empty one is not."
pub record Live (text : List AddressRange) (r : AddressRange) : Type 0 where
  pub filled : Nonempty r
  pub size : r.end - r.start ≤ 4294967295
  pub in_text : Any (Inside r) text

pub record RecordAgrees (d : Dwarf) (u : CompilationUnit) (inlines : Bool) (k : Subject) (f : Function) : Type 0 where
  pub among : k.number < length u.entries
  pub subprogram : (entry (tree_entries d u) k.number).tag ≡ dw_tag_subprogram
  pub name : f.name ≡ (entry (tree_entries d u) k.number).name
  pub named : f.name ≢ []
  pub range : f.range ≡ k.range
  pub live : Live u.text f.range
  pub rows : RowsAgree f.range f.lines
  -- the nodes are none, or the root and those that are paired with the kept entries
  pub tree : inlines ≡ true → (ns : List InlineNode) × (f.inline ≡ rooted f.name f.range ns)
      × TreeAgrees f.range (tree_entries d u) k.number (map tree_node ns)
  pub treeless : inlines ≡ false → f.inline ≡ []

module _ {A B : Type 0} (R : A → B → Type 0) where
  -- the first with the first, the second with the second, and so on, and as many of both
  abbrev pub Pointwise : List A → List B → Type 0
  Pointwise [] [] = Unit {0}
  Pointwise [] (y ∷ ys) = ⊥
  Pointwise (x ∷ xs) [] = ⊥
  Pointwise (x ∷ xs) (y ∷ ys) = R x y × Pointwise xs ys

-- what the import of a unit adds to the records answers for the unit's subjects, one for each, in order
pub record UnitAgrees (d : Dwarf) (u : CompilationUnit) (inlines : Bool) (s t : State) : Type 0 where
  pub new : List Function
  pub added : t.records ≡ s.records ++ new
  pub agree : Pointwise (RecordAgrees d u inlines) (subjects d u) new

abbrev pub Units : Type 0
Units = (d : Dwarf) (u : CompilationUnit) (program : List ℕ) (inlines call_sites : Bool) (s t : State)
    → UnitAccepted u → import_unit d u program inlines call_sites s ≡ done t → UnitAgrees d u inlines s t

-- the agreement leaves no choice: two lists of nodes that agree with the same entries are equal, so every other tree is shut out
abbrev pub OneTree : Type 0
OneTree = (f : AddressRange) (us : List TreeEntry) (s : ℕ) (ns ms : List TreeNode) → TreeAgrees f us s ns → TreeAgrees f us s ms → ns ≡ ms

-- ---- when a walk below a subprogram finishes, and what a refusal says

abbrev pub unit_entry : CompilationUnit → ℕ → Entry
unit_entry u i = get_or u.entries i (record { offset = 0; depth = 0; tag = 0; attributes = []; ranges = []; failure = none; list = none })

-- the entries below entry s, as the walk meets them
abbrev pub entries_below : CompilationUnit → ℕ → List Entry
entries_below u s = descendants_of (unit_entry u s).depth (drop (suc s) u.entries)

-- an inlined entry below s
pub record InlinedBelow (c : DetailContext) (s i : ℕ) : Type 0 where
  pub under : Below (tree_entries c.dwarf c.unit) s i
  pub inlined : (unit_entry c.unit i).tag ≡ dw_tag_inlined_subroutine

-- a call site below s, where they are asked for
pub record SiteBelow (c : DetailContext) (s i : ℕ) : Type 0 where
  pub under : Below (tree_entries c.dwarf c.unit) s i
  pub asked : c.include_call_sites ≡ true
  pub site : (unit_entry c.unit i).tag ≡ dw_tag_call_site

-- entry i has a name
abbrev pub HasName : DetailContext → ℕ → Type 0
HasName c i = found_name (resolve_name c.dwarf c.unit (unit_entry c.unit i)) ≢ []

pub record WalkFinishes (c : DetailContext) (s : ℕ) : Type 0 where
  pub names : (i : ℕ) → InlinedBelow c s i → (name : List ℕ) × (resolve_name c.dwarf c.unit (unit_entry c.unit i) ≡ done name)
  pub ranges : (i : ℕ) → InlinedBelow c s i → HasName c i → (die_ranges c.dwarf (unit_entry c.unit i)).failure ≡ none
  pub shallow : ¬ TooDeep c.function_range (tree_entries c.dwarf c.unit) s
  pub sites : (i : ℕ) → SiteBelow c s i → (x : Option CallSite) × (make_call_site c (unit_entry c.unit i) ≡ done x)

-- which entry a refusal is for, and why
pub data Blamed (c : DetailContext) (s : ℕ) : ℕ → Type 0 where
  by_name : {n i : ℕ} → InlinedBelow c s i → resolve_name c.dwarf c.unit (unit_entry c.unit i) ≡ refused n → Blamed c s n
  by-ranges : {i : ℕ} → InlinedBelow c s i → HasName c i → (die_ranges c.dwarf (unit_entry c.unit i)).failure ≢ none
      → Blamed c s (die_ranges c.dwarf (unit_entry c.unit i)).refusal
  by-depth : TooDeep c.function_range (tree_entries c.dwarf c.unit) s → Blamed c s 14
  by_site : {n i : ℕ} → SiteBelow c s i → make_call_site c (unit_entry c.unit i) ≡ refused n → Blamed c s n

pub record WalkAgrees (c : DetailContext) (s : ℕ) : Type 0 where
  pub finishes : ((x : Descendants) × (extract_subprogram_details c (entries_below c.unit s) ≡ done x)) ↔ WalkFinishes c s
  pub refuses : (n : ℕ) → extract_subprogram_details c (entries_below c.unit s) ≡ refused n → Blamed c s n

abbrev pub Walks : Type 0
Walks = (c : DetailContext) (s : ℕ) → c.include_inlines ≡ true → UnitAccepted c.unit → s < length c.unit.entries → WalkAgrees c s

-- ---- trays can be read back

-- what a caller can lend: bytes, and a first file number of 32 bits
pub record Lent (i : Inputs) : Type 0 where
  pub main : Bytes i.main
  pub supplementary : Bytes i.supplementary
  pub first_file : i.first_file < 2 ^ 32

-- everything that an import leaves behind fits the trays' fields: "every field's payload fits its two-byte length, longest joined path included"
pub record StateFits (s : State) : Type 0 where
  pub records : All FunctionFits s.records
  pub files : All FileFits s.table.entries
  pub warnings : All WarningFits s.warnings

abbrev pub Producing : Type 0
Producing = (i : Inputs) (s : State) → Lent i → import_of i ≡ done s → StateFits s

-- the same of the import of all units (document 02, E11)
abbrev pub DwarfProducing : Type 0
DwarfProducing = (i : Inputs) (s : State) → Lent i → import_dwarf_of i ≡ done s → StateFits s

-- ---- every refusal is one of document 01's numbers, or one of document 02's 21 and 22 (E8) and 23 to 25 (E9)

abbrev pub RefusalNumber : ℕ → Type 0
RefusalNumber n = ((1 ≤ n) × (n ≤ 18)) ⊎ ((21 ≤ n) × (n ≤ 25))

abbrev pub Refusals : Type 0
Refusals = (i : Inputs) (n : ℕ) → outcome_of i (import_of i) ≡ refused n → RefusalNumber n

abbrev pub DwarfRefusals : Type 0
DwarfRefusals = (i : Inputs) (n : ℕ) → outcome_of i (import_dwarf_of i) ≡ refused n → RefusalNumber n

-- ---- the whole demand, of what the trays hold after a call

-- records answer for the unit that was asked for; a package without debug data (document 02, E4) has no unit, and no record
abbrev pub ChosenAgrees : Inputs → Option CompilationUnit → List Function → Type 0
ChosenAgrees i none rs = (i.main ≡ []) × (i.ordinal ≡ 0) × (rs ≡ [])
ChosenAgrees i (some u) rs = Pointwise (RecordAgrees (dwarf_of i) u i.inlines) (subjects (dwarf_of i) u) rs

-- records answer for the subjects of units, those of the first unit first (document 02, E11): "Every record in the joined tray obeys demand 3 against its
-- own unit"
abbrev pub UnitsAgree : Dwarf → Bool → List CompilationUnit → List Function → Type 0
UnitsAgree d inlines [] rs = rs ≡ []
UnitsAgree d inlines (u ∷ us) rs =
    (own : List Function) × (rest : List Function) × (rs ≡ own ++ rest)
    × Pointwise (RecordAgrees d u inlines) (subjects d u) own × UnitsAgree d inlines us rest

-- a call that is finished, which left a behind: where the import comes to o, the trays are read back as what it leaves behind, and the records agree
pub record Finished (o : Outcome State) (Agree : List Function → Type 0) (a : After) : Type 0 where
  pub state : State
  pub imported : o ≡ done state
  pub records : read_records (take a.answer.records a.records) ≡ some state.records
  pub files : read_files (take a.answer.files a.files) ≡ some state.table.entries
  pub warnings : read_warnings (take a.answer.warnings a.warnings) ≡ some state.warnings
  pub agree : Agree state.records

-- of the import of a unit: record k answers for subject k of the unit that was asked for
abbrev pub UnitFinished : Inputs → After → Type 0
UnitFinished i a = Finished (import_of i) (ChosenAgrees i (at (units i.main) i.ordinal)) a

abbrev pub Demand : Type 0
Demand = (i : Inputs) → Lent i → (after i).answer.refusal ≡ 0 → UnitFinished i (after i)

-- of the import of all units
abbrev pub DwarfFinished : Inputs → After → Type 0
DwarfFinished i a = Finished (import_dwarf_of i) (UnitsAgree (dwarf_of i) i.inlines (units i.main)) a

abbrev pub DwarfDemand : Type 0
DwarfDemand = (i : Inputs) → Lent i → (after_dwarf i).answer.refusal ≡ 0 → DwarfFinished i (after_dwarf i)
