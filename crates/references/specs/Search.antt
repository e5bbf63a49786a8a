-- Definition. Names and declarations by reference (the Rust's convert/dwarf/references.rs, without its caches).
use Rattle.std.specs.Prelude.{ℕ, zero, suc, ◌+◌, ◌-◌, ◌^◌, Bool, true, false, cond, ◌&&◌, ◌||◌, List, [], ◌∷◌, ◌++◌, leb, ltb, eqb}
use Rattle.std.proofs.Math.Option.{Option, none, some}
use Rattle.tlv.specs.Constants.{dw_at_abstract_origin, dw_at_decl_file, dw_at_decl_line, dw_at_linkage_name, dw_at_mips_linkage_name}
use Rattle.tlv.specs.Constants.{dw_at_name, dw_at_specification}
use Rattle.tlv.specs.declared.model.FileIndex.{FileIndex}
use Rattle.tlv.specs.declared.model.LineEntry.{LineEntry}
use Rattle.tlv.specs.Outcome.{Outcome, refused, done, ◌>>=◌}
use Rattle.tlv.specs.Lists.{first, exists, is_none, is_empty}
use Rattle.tlv.specs.Model.{CompilationUnit, Entry, Attribute, LineHeader}
use Rattle.buffers.specs.Output.{Warning, WarningKind, about, invalid_declaration_file, invalid_declaration_line}
use Rattle.lines.specs.Files.{FileTable, FileIndices, Indexed, intern_header_files, get}

-- ---- where a search looks

-- the units of the two sheets; no supplementary units where there is no supplementary sheet. And the sections that range lists are read from,
-- which no search looks at
pub record Dwarf : Type 0 where
  pub main : List CompilationUnit
  pub supplementary : List CompilationUnit
  pub lists : List ℕ
  pub addresses : List ℕ

-- DebugSource
pub data DebugSource : Type 0 where
  main_source supplementary_source : DebugSource

unfoldable pub units_in : Dwarf → DebugSource → List CompilationUnit
units_in d main_source = d.main
units_in d supplementary_source = d.supplementary

-- where a search stands: an entry of a unit, the sheet it is in, and the source that its unit's targets are remembered under, which need not be that sheet
pub record Place : Type 0 where
  pub input : DebugSource
  pub source : DebugSource
  pub unit : CompilationUnit
  pub entry : Entry

-- ---- what was followed: "Each target is followed once per search"

pub record DieKey : Type 0 where
  pub source : DebugSource
  pub offset : ℕ

abbrev pub same_source : DebugSource → DebugSource → Bool
same_source main_source main_source = true
same_source main_source supplementary_source = false
same_source supplementary_source main_source = false
same_source supplementary_source supplementary_source = true

abbrev pub same_key : DieKey → DieKey → Bool
same_key a b = same_source a.source b.source && eqb a.offset b.offset

-- the targets that a search has followed, the newest first, and how many entries it has read, its start included
pub record Trail : Type 0 where
  pub visited : List DieKey
  pub reads : ℕ

abbrev pub empty_trail : Trail
empty_trail = record { visited = []; reads = 1 }

unfoldable pub is_visited : Trail → DieKey → Bool
is_visited t k = exists (same_key k) t.visited

-- a target outside all units is remembered, but there is no entry to read
abbrev pub visit : Trail → DieKey → Trail
visit t k = record { visited = k ∷ t.visited; reads = t.reads }

abbrev pub visit_entry : Trail → DieKey → Trail
visit_entry t k = record { visited = k ∷ t.visited; reads = t.reads + 1 }

-- ---- attributes: "Of equal attribute names the first counts."

unfoldable pub attribute : Entry → ℕ → Option Attribute
attribute e n = first (λ a. eqb a.name n) e.attributes

-- the number of an attribute of one of the kinds that a reader takes
abbrev pub number_if : (ℕ → Bool) → Option Attribute → Option ℕ
number_if p none = none
number_if p (some a) = cond (p a.kind) (some a.value) none

-- unsigned_attribute
unfoldable pub unsigned_attribute : Entry → ℕ → Option ℕ
unsigned_attribute e n = number_if (λ k. eqb k 1) (attribute e n)

-- file_index_attribute
unfoldable pub file_index_attribute : Entry → ℕ → Option ℕ
file_index_attribute e n = number_if (λ k. eqb k 1 || eqb k 2) (attribute e n)

-- ---- references

-- absolute_entry_offset
unfoldable pub absolute_entry_offset : CompilationUnit → ℕ → Outcome ℕ
absolute_entry_offset u o = cond (ltb (u.offset + o) (2 ^ 64)) (done (u.offset + o)) (refused 12)

abbrev pub or_no_entry : Option Entry → Outcome Entry
or_no_entry none = refused 13
or_no_entry (some e) = done e

-- the entry that starts at an offset of the unit
unfoldable pub entry_at : CompilationUnit → ℕ → Outcome Entry
entry_at u o = or_no_entry (first (λ e. eqb e.offset o) u.entries)

-- unit_containing_offset
unfoldable pub unit_containing : List CompilationUnit → ℕ → Option CompilationUnit
unit_containing us target = first (λ u. leb u.offset target && ltb target (u.offset + u.length)) us

-- what a reference leads to. Only a target that is reached by section offset brings its unit's files with it
pub data Target : Type 0 where
  nothing : Target
  same_unit : Place → Target
  by_offset : Place → Target

pub record Followed : Type 0 where
  pub trail : Trail
  pub target : Target

abbrev pub followed_nothing : Trail → Outcome Followed
followed_nothing t = done (record { trail = t; target = nothing })

-- 13 where the unit has no entry there; "outside all units these two yield nothing"
abbrev pub follow_in : DebugSource → DieKey → Trail → Option CompilationUnit → Outcome Followed
follow_in input k t none = followed_nothing (visit t k)
follow_in input k t (some u) = entry_at u (k.offset - u.offset) >>= λ e.
    done (record { trail = visit_entry t k; target = by_offset (record { input = input; source = k.source; unit = u; entry = e }) })

-- a section offset of a sheet, remembered under `source`
unfoldable pub follow_absolute : Dwarf → DebugSource → DebugSource → Trail → ℕ → Outcome Followed
follow_absolute d input source t o =
    let k : DieKey = record { source = source; offset = o } in
    cond (is_visited t k) (followed_nothing t) (follow_in input k t (unit_containing (units_in d input) o))

-- an offset in the place's own unit
unfoldable pub follow_unit : Place → Trail → ℕ → Outcome Followed
follow_unit p t o = absolute_entry_offset p.unit o >>= λ a.
    let k : DieKey = record { source = p.source; offset = a } in
    cond (is_visited t k) (followed_nothing t)
    (entry_at p.unit o >>= λ e.
    done (record { trail = visit_entry t k; target = same_unit (record { input = p.input; source = p.source; unit = p.unit; entry = e }) }))

-- a supplementary reference, from the main sheet only, and where there is a supplementary sheet
abbrev pub follow_supplementary : Dwarf → DebugSource → List CompilationUnit → Trail → ℕ → Outcome Followed
follow_supplementary d main_source [] t o = followed_nothing t
follow_supplementary d main_source (u ∷ us) t o = follow_absolute d supplementary_source supplementary_source t o
follow_supplementary d supplementary_source us t o = followed_nothing t

-- a reference attribute by its kind. "A section reference met inside the supplementary sheet looks there, yet is remembered as a main one"
unfoldable pub follow : Dwarf → Place → Trail → Option Attribute → Outcome Followed
follow d p t none = followed_nothing t
follow d p t (some a) =
    cond (eqb a.kind 4) (follow_unit p t a.value)
    (cond (eqb a.kind 5) (follow_absolute d p.input main_source t a.value)
    (cond (eqb a.kind 6) (follow_supplementary d p.input d.supplementary t a.value)
    (followed_nothing t)))

-- abstract origin, then specification
abbrev pub origin_attributes : List ℕ
origin_attributes = dw_at_abstract_origin ∷ dw_at_specification ∷ []

-- how many entries in a row a search looks at: "63 in a row are followed; a 64th is still read .. but yields nothing"
abbrev pub chain_limit : ℕ
chain_limit = 64

-- ---- names

-- "the first nonempty of linkage, MIPS linkage (2007 hex) and plain name"
abbrev pub name_attributes : List ℕ
name_attributes = dw_at_linkage_name ∷ dw_at_mips_linkage_name ∷ dw_at_name ∷ []

abbrev pub if_empty : List ℕ → Outcome (List ℕ) → Outcome (List ℕ)
if_empty [] other = other
if_empty (b ∷ s) other = done (b ∷ s)

-- attribute_bytes: 6 for "a name attribute that is read and is no string"
abbrev pub name_from : Option Attribute → Outcome (List ℕ) → Outcome (List ℕ)
name_from none other = other
name_from (some a) other = cond (eqb a.kind 3) (if_empty a.text other) (refused 6)

-- the entry's own name; empty: none
unfoldable pub own_name : Entry → List ℕ → Outcome (List ℕ)
own_name e [] = done []
own_name e (n ∷ ns) = name_from (attribute e n) (own_name e ns)

pub record Named : Type 0 where
  pub trail : Trail
  pub name : List ℕ  -- empty: none

-- the search of one level less
abbrev pub NameSearch : Type 0
NameSearch = Place → Trail → Outcome Named

abbrev pub name_at_target : NameSearch → Trail → Target → Outcome Named
name_at_target search t nothing = done (record { trail = t; name = [] })
name_at_target search t (same_unit p) = search p t
name_at_target search t (by_offset p) = search p t

-- the first name that an entry's references lead to
unfoldable pub referenced_name : NameSearch → Dwarf → Place → List ℕ → Trail → Outcome Named
referenced_name search d p [] t = done (record { trail = t; name = [] })
referenced_name search d p (n ∷ ns) t =
    follow d p t (attribute p.entry n) >>= λ f.
    name_at_target search f.trail f.target >>= λ r.
    cond (is_empty r.name) (referenced_name search d p ns r.trail) (done r)

-- resolve_name_inner; k is the limit less the depth
unfoldable pub resolve_name_inner : ℕ → Dwarf → Place → Trail → Outcome Named
resolve_name_inner zero d p t = done (record { trail = t; name = [] })
resolve_name_inner (suc k) d p t = own_name p.entry name_attributes >>= λ own.
    cond (is_empty own) (referenced_name (resolve_name_inner k d) d p origin_attributes t) (done (record { trail = t; name = own }))

-- an entry of the unit that is imported
abbrev pub place_in : CompilationUnit → Entry → Place
place_in u e = record { input = main_source; source = main_source; unit = u; entry = e }

-- resolve_name, with what it followed
unfoldable pub resolve_named : Dwarf → CompilationUnit → Entry → Outcome Named
resolve_named d u e = resolve_name_inner chain_limit d (place_in u e) empty_trail

-- resolve_name: the name of an entry of the unit that is imported; empty: none
unfoldable pub resolve_name : Dwarf → CompilationUnit → Entry → Outcome (List ℕ)
resolve_name d u e = resolve_named d u e >>= λ r. done r.name

-- resolve_reference_name: the name that an attribute of such an entry refers to
unfoldable pub resolve_reference_name : Dwarf → CompilationUnit → Entry → Attribute → Outcome (List ℕ)
resolve_reference_name d u e a =
    follow d (place_in u e) empty_trail (some a) >>= λ f.
    name_at_target (resolve_name_inner (chain_limit - 1) d) f.trail f.target >>= λ r.
    done r.name

-- ---- declarations: the search carries the file table and the warnings along

pub record Declaring : Type 0 where
  pub trail : Trail
  pub table : FileTable
  pub warnings : List Warning
  pub found : Option LineEntry  -- its address is set later

abbrev pub with_found : Declaring → Option LineEntry → Declaring
with_found s l = record { trail = s.trail; table = s.table; warnings = s.warnings; found = l }

abbrev pub with_trail : Declaring → Trail → Declaring
with_trail s t = record { trail = t; table = s.table; warnings = s.warnings; found = none }

abbrev pub with_table : Declaring → FileTable → Declaring
with_table s t = record { trail = s.trail; table = t; warnings = s.warnings; found = none }

-- a bad declaration warns, with the entry's offset in its section
unfoldable pub warn_declaration : WarningKind → CompilationUnit → Entry → ℕ → Declaring → Outcome Declaring
warn_declaration kind u e n s = absolute_entry_offset u e.offset >>= λ o.
    done (record { trail = s.trail; table = s.table; warnings = s.warnings ++ (about kind o n ∷ []); found = none })

-- a declaration's file number and line, where the unit's files have the number or not
abbrev pub declaration_of : CompilationUnit → Entry → ℕ → ℕ → Option FileIndex → Declaring → Outcome Declaring
declaration_of u e file line none s = warn_declaration invalid_declaration_file u e file s
declaration_of u e file line (some i) s =
    cond (ltb line (2 ^ 32)) (done (with_found s (some (record { address = 0; file = i; line = line; column = 0 }))))
    (warn_declaration invalid_declaration_line u e line s)

abbrev pub declaration_from : CompilationUnit → Entry → FileIndices → Option ℕ → Option ℕ → Declaring → Outcome Declaring
declaration_from u e is none line s = done s
declaration_from u e is (some file) none s = done s
declaration_from u e is (some file) (some line) s = declaration_of u e file line (get is file) s

-- the entry's own declaration, where it has both a file and a line
unfoldable pub own_declaration : CompilationUnit → Entry → FileIndices → Declaring → Outcome Declaring
own_declaration u e is s = declaration_from u e is (file_index_attribute e dw_at_decl_file) (unsigned_attribute e dw_at_decl_line) s

-- the search of one level less
abbrev pub DeclarationSearch : Type 0
DeclarationSearch = Place → FileIndices → Declaring → Outcome Declaring

-- the files of a unit that was reached by section offset join the table
abbrev pub unit_files : CompilationUnit → Option LineHeader → FileTable → Outcome Indexed
unit_files u none t = done (record { table = t; indices = [] })
unit_files u (some h) t = intern_header_files u h t

abbrev pub declaration_at_target : DeclarationSearch → FileIndices → Declaring → Target → Outcome Declaring
declaration_at_target search is s nothing = done s
declaration_at_target search is s (same_unit p) = search p is s
declaration_at_target search is s (by_offset p) = unit_files p.unit p.unit.header s.table >>= λ i. search p i.indices (with_table s i.table)

-- the first declaration that an entry's references lead to
unfoldable pub referenced_declaration : DeclarationSearch → Dwarf → Place → FileIndices → List ℕ → Declaring → Outcome Declaring
referenced_declaration search d p is [] s = done s
referenced_declaration search d p is (n ∷ ns) s =
    follow d p s.trail (attribute p.entry n) >>= λ f.
    declaration_at_target search is (with_trail s f.trail) f.target >>= λ r.
    cond (is_none r.found) (referenced_declaration search d p is ns r) (done r)

-- DeclarationResolver::resolve; k is the limit less the depth
unfoldable pub resolve_declaration : ℕ → Dwarf → Place → FileIndices → Declaring → Outcome Declaring
resolve_declaration zero d p is s = done s
resolve_declaration (suc k) d p is s = own_declaration p.unit p.entry is s >>= λ r.
    cond (is_none r.found) (referenced_declaration (resolve_declaration k d) d p is origin_attributes r) (done r)

-- resolve_declaration_line
unfoldable pub resolve_declaration_line : Dwarf → CompilationUnit → Entry → FileIndices → FileTable → List Warning → Outcome Declaring
resolve_declaration_line d u e is table warnings =
    resolve_declaration chain_limit d (place_in u e) is (record { trail = empty_trail; table = table; warnings = warnings; found = none })
