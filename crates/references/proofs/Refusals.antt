-- The numbers that the searches can refuse with: 12 and 13 for following a reference, 6 to 13 for names, 6 to 15 for declarations.
use Prim.Native.Nat.{ℕ, zero, suc}
use mathlib.Core.List.{List, [], ◌∷◌}
use mathlib.Core.Option.{Option, none, some}
use lib.Dec.{eqb}
use Rattle.tlv.specs.declared.model.FileIndex.{FileIndex}
use Rattle.tlv.specs.Outcome.{Outcome}
use Rattle.tlv.specs.Lists.{first}
use Rattle.tlv.specs.Model.{CompilationUnit, Entry, Attribute, LineHeader}
use Rattle.tlv.proofs.RefusalLaws.{RefusesIn, never, refuses-wider, refusing}
use Rattle.buffers.specs.Output.{Warning, WarningKind}
use Rattle.lines.specs.Files.{FileTable, FileIndices, get}
use Rattle.lines.proofs.Refusals.{refuses-header-files}
use Rattle.references.specs.Search.{Dwarf, DebugSource, main_source, supplementary_source, Place, DieKey, Trail, attribute, unsigned_attribute, file_index_attribute, absolute_entry_offset, or_no_entry, entry_at, Target, nothing, same_unit, by_offset, follow_in, follow_absolute, follow_unit, follow_supplementary, follow}
use Rattle.references.specs.Search.{if_empty, name_from, own_name, NameSearch, name_at_target, referenced_name, resolve_name_inner, resolve_named, resolve_name, resolve_reference_name}
use Rattle.references.specs.Search.{Declaring, warn_declaration, declaration_of, declaration_from, own_declaration, DeclarationSearch, unit_files, declaration_at_target, referenced_declaration, resolve_declaration, resolve_declaration_line}

-- ---- references: 12 and 13

pub refuses-offset : (u : CompilationUnit) (o : ℕ) → RefusesIn 12 12 (absolute_entry_offset u o)
unfolding absolute_entry_offset
refuses-offset u o = search refusing

refuses-entry : (u : CompilationUnit) (o : ℕ) → RefusesIn 13 13 (entry_at u o)
unfolding entry_at
refuses-entry u o = go (first (λ e. eqb e.offset o) u.entries)
  where
    go : (x : Option Entry) → RefusesIn 13 13 (or_no_entry x)
    go none = search refusing
    go (some e) = never

refuses-absolute : (d : Dwarf) (input source : DebugSource) (t : Trail) (o : ℕ) → RefusesIn 13 13 (follow_absolute d input source t o)
unfolding follow_absolute
refuses-absolute d input source t o = search (refusing, go)
  where
    go : (k : DieKey) (x : Option CompilationUnit) → RefusesIn 13 13 (follow_in input k t x)
    go k none = never
    go k (some u) = search (refusing, refuses-entry)

refuses-follow_unit : (p : Place) (t : Trail) (o : ℕ) → RefusesIn 12 13 (follow_unit p t o)
unfolding follow_unit
refuses-follow_unit p t o = search (refusing, refuses-wider 12 12, refuses-offset, refuses-wider 13 13, refuses-entry)

refuses-supplementary : (d : Dwarf) (s : DebugSource) (us : List CompilationUnit) (t : Trail) (o : ℕ) → RefusesIn 13 13 (follow_supplementary d s us t o)
refuses-supplementary d main_source [] t o = never
refuses-supplementary d main_source (u ∷ us) t o = refuses-absolute d supplementary_source supplementary_source t o
refuses-supplementary d supplementary_source us t o = never

pub refuses-follow : (d : Dwarf) (p : Place) (t : Trail) (o : Option Attribute) → RefusesIn 12 13 (follow d p t o)
unfolding follow
refuses-follow d p t none = never
refuses-follow d p t (some a) = search (refusing, refuses-follow_unit, refuses-wider 13 13, refuses-absolute, refuses-supplementary) depth 7

-- ---- names: 6 for a name that is no string, 12 and 13

refuses-own_name : (e : Entry) (ns : List ℕ) → RefusesIn 6 6 (own_name e ns)
unfolding own_name
refuses-own_name e [] = never
refuses-own_name e (n ∷ ns) = go (attribute e n) (refuses-own_name e ns)
  where
    own : (text : List ℕ) {x : Outcome (List ℕ)} → RefusesIn 6 6 x → RefusesIn 6 6 (if_empty text x)
    own [] later = later
    own (b ∷ s) later = never

    go : (o : Option Attribute) {x : Outcome (List ℕ)} → RefusesIn 6 6 x → RefusesIn 6 6 (name_from o x)
    go none later = later
    go (some a) later = search (refusing, own)

-- a search of which every answer keeps to 6 to 13
abbrev NameRefuses : NameSearch → Type 0
NameRefuses inner = (p : Place) (t : Trail) → RefusesIn 6 13 (inner p t)

refuses-name_at : {inner : NameSearch} → NameRefuses inner → (t : Trail) (x : Target) → RefusesIn 6 13 (name_at_target inner t x)
refuses-name_at r t nothing = never
refuses-name_at r t (same_unit p) = r p t
refuses-name_at r t (by_offset p) = r p t

module _ {inner : NameSearch} (r : NameRefuses inner) (d : Dwarf) (p : Place) where
  refuses-referenced : (ns : List ℕ) (t : Trail) → RefusesIn 6 13 (referenced_name inner d p ns t)
  unfolding referenced_name
  refuses-referenced [] t = never
  refuses-referenced (n ∷ ns) t =
      let later = refuses-referenced ns in search (refusing, refuses-wider 12 13, refuses-follow, refuses-name_at) depth 7

refuses-inner : (k : ℕ) (d : Dwarf) → NameRefuses (resolve_name_inner k d)
unfolding resolve_name_inner
refuses-inner zero d p t = never
refuses-inner (suc k) d p t =
    let later = refuses-inner k d in search (refusing, refuses-wider 6 6, refuses-own_name, refuses-referenced)

pub refuses-name : (d : Dwarf) (u : CompilationUnit) (e : Entry) → RefusesIn 6 13 (resolve_name d u e)
unfolding resolve_name resolve_named
refuses-name d u e = search (refusing, refuses-inner)

pub refuses-reference_name : (d : Dwarf) (u : CompilationUnit) (e : Entry) (a : Attribute) → RefusesIn 6 13 (resolve_reference_name d u e a)
unfolding resolve_reference_name
refuses-reference_name d u e a = search (refusing, refuses-wider 12 13, refuses-follow, refuses-name_at, refuses-inner) depth 7

-- ---- declarations: 12 and 13, and what the files of the units on the way give

refuses-warn : (kind : WarningKind) (u : CompilationUnit) (e : Entry) (n : ℕ) (s : Declaring) → RefusesIn 12 12 (warn_declaration kind u e n s)
unfolding warn_declaration
refuses-warn kind u e n s = search (refusing, refuses-offset)

refuses-declaration : (u : CompilationUnit) (e : Entry) (file line : ℕ) (i : Option FileIndex) (s : Declaring) → RefusesIn 12 12 (declaration_of u e file line i s)
refuses-declaration u e file line none s = search refuses-warn
refuses-declaration u e file line (some i) s = search (refusing, refuses-warn)

refuses-own_declaration : (u : CompilationUnit) (e : Entry) (is : FileIndices) (s : Declaring) → RefusesIn 12 12 (own_declaration u e is s)
unfolding own_declaration
refuses-own_declaration u e is s = go (file_index_attribute e 0x3a) (unsigned_attribute e 0x3b)
  where
    go : (file line : Option ℕ) → RefusesIn 12 12 (declaration_from u e is file line s)
    go none line = never
    go (some file) none = never
    go (some file) (some line) = refuses-declaration u e file line (get is file) s

refuses-unit_files : (u : CompilationUnit) (o : Option LineHeader) (t : FileTable) → RefusesIn 6 15 (unit_files u o t)
refuses-unit_files u none t = never
refuses-unit_files u (some h) t = refuses-header-files u h t

-- a search of which every answer keeps to 6 to 15
abbrev DeclarationRefuses : DeclarationSearch → Type 0
DeclarationRefuses inner = (p : Place) (is : FileIndices) (s : Declaring) → RefusesIn 6 15 (inner p is s)

refuses-declaration_at : {inner : DeclarationSearch} → DeclarationRefuses inner
    → (is : FileIndices) (s : Declaring) (x : Target) → RefusesIn 6 15 (declaration_at_target inner is s x)
refuses-declaration_at r is s nothing = never
refuses-declaration_at r is s (same_unit p) = r p is s
refuses-declaration_at r is s (by_offset p) = search (refusing, refuses-unit_files)

module _ {inner : DeclarationSearch} (r : DeclarationRefuses inner) (d : Dwarf) (p : Place) (is : FileIndices) where
  refuses-declared : (ns : List ℕ) (s : Declaring) → RefusesIn 6 15 (referenced_declaration inner d p is ns s)
  unfolding referenced_declaration
  refuses-declared [] s = never
  refuses-declared (n ∷ ns) s =
      let later = refuses-declared ns in search (refusing, refuses-wider 12 13, refuses-follow, refuses-declaration_at) depth 7

refuses-resolve : (k : ℕ) (d : Dwarf) → DeclarationRefuses (resolve_declaration k d)
unfolding resolve_declaration
refuses-resolve zero d p is s = never
refuses-resolve (suc k) d p is s =
    let later = refuses-resolve k d in search (refusing, refuses-wider 12 12, refuses-own_declaration, refuses-declared)

pub refuses-declaration_line : (d : Dwarf) (u : CompilationUnit) (e : Entry) (is : FileIndices) (table : FileTable) (warnings : List Warning)
    → RefusesIn 6 15 (resolve_declaration_line d u e is table warnings)
unfolding resolve_declaration_line
refuses-declaration_line d u e is table warnings = search refuses-resolve
