-- Where the sheets are accepted, the search for a declaration leaves a file table and warnings that fit their fields, and the row that it finds does.
use mathlib.Core.List.{List, [], ◌∷◌}
use mathlib.Core.Option.{Option, none, some}
use Prim.Native.Nat.{ℕ, zero, suc, ◌^◌, ◌<◌}
use borrow.Author.Tests.{ltb-true}
use lib.Dec.{ltb}
use Rattle.tlv.specs.declared.model.FileIndex.{FileIndex}
use Rattle.tlv.specs.declared.model.LineEntry.{LineEntry}
use Rattle.tlv.specs.Lists.{All, is_none}
use Rattle.tlv.specs.Model.{CompilationUnit, Entry, LineHeader}
use Rattle.tlv.specs.Accepted.{Given, EntryAccepted, UnitAccepted}
use Rattle.tlv.proofs.ListLaws.{all_append}
use Rattle.tlv.proofs.OutcomeLaws.{Gives, gives, gives-cond, gives-bind}
use Rattle.buffers.specs.Output.{Warning, WarningKind, about, invalid_declaration_file, invalid_declaration_line}
use Rattle.buffers.specs.Fits.{WarningFits}
use Rattle.lines.specs.Files.{FileTable, FileIndices, get}
use Rattle.lines.proofs.Bounds.{TableFits, IndexFits, IndicesFit, IndexedFits}
use Rattle.lines.proofs.FileBounds.{intern_header_fits, get-fits}
use Rattle.references.specs.Search.{Dwarf, Place, empty_trail, attribute, unsigned_attribute, file_index_attribute, Target, nothing, same_unit, by_offset, origin_attributes, chain_limit, place_in}
use Rattle.references.specs.Search.{Declaring, with_trail, with_table, warn_declaration, declaration_of, declaration_from, own_declaration, DeclarationSearch, unit_files, declaration_at_target, referenced_declaration, resolve_declaration, resolve_declaration_line}
use Rattle.references.proofs.NameBounds.{DwarfAccepted, PlaceAccepted, TargetAccepted, unsigned_small, file_index-small, absolute-small, follow-accepted}

-- a row whose file and line fit; its address is set later
pub record FoundFits (l : LineEntry) : Type 0 where
  pub file : IndexFits l.file
  pub line : l.line < 2 ^ 32

pub record DeclaringFits (s : Declaring) : Type 0 where
  pub table : TableFits s.table
  pub warnings : All WarningFits s.warnings
  pub found : Given FoundFits s.found

-- ---- an entry's own declaration

module _ (u : CompilationUnit) (e : Entry) (s : Declaring) (fits : DeclaringFits s) where
  warn_fits : (kind : WarningKind) (n : ℕ) → n < 2 ^ 64 → Gives DeclaringFits (warn_declaration kind u e n s)
  unfolding warn_declaration
  warn_fits kind n small = gives-bind (absolute-small u e.offset) λ o h.
      gives (record { table = fits.table; warnings = all_append WarningFits s.warnings (about kind o n ∷ []) fits.warnings ((h, small), tt); found = tt })

  module _ (is : FileIndices) (numbers : IndicesFit is) (accepted : EntryAccepted u.length e) where
    own-fits : Gives DeclaringFits (own_declaration u e is s)
    unfolding own_declaration
    own-fits = from (file_index_attribute e 0x3a) (unsigned_attribute e 0x3b) (file_index-small e 0x3a accepted) (unsigned_small e 0x3b accepted)
      where
        of : (file line : ℕ) (o : Option FileIndex) → file < 2 ^ 64 → line < 2 ^ 64 → Given IndexFits o → Gives DeclaringFits (declaration_of u e file line o s)
        of file line none f l h = warn_fits invalid_declaration_file file f
        of file line (some i) f l h = gives-cond (ltb line (2 ^ 32))
            (λ q. gives (record { table = fits.table; warnings = fits.warnings; found = record { file = h; line = ltb-true line (2 ^ 32) q } }))
            (λ q. warn_fits invalid_declaration_line line l)

        from : (file line : Option ℕ) → Given (λ v. v < 2 ^ 64) file → Given (λ v. v < 2 ^ 64) line → Gives DeclaringFits (declaration_from u e is file line s)
        from none line f l = gives fits
        from (some file) none f l = gives fits
        from (some file) (some line) f l = of file line (get is file) f l (get-fits is file numbers)

-- ---- the search

unit_files-fit : (u : CompilationUnit) (o : Option LineHeader) (t : FileTable) → UnitAccepted u → TableFits t → Gives IndexedFits (unit_files u o t)
unit_files-fit u none t a k = gives (record { table = k; indices = tt })
unit_files-fit u (some h) t a k = intern_header_fits u h t a k

-- a search that leaves what fits, and finds what fits
abbrev FindsFitting : DeclarationSearch → Type 0
FindsFitting inner = (p : Place) (is : FileIndices) (s : Declaring) → PlaceAccepted p → IndicesFit is → DeclaringFits s → Gives DeclaringFits (inner p is s)

target_fits : {inner : DeclarationSearch} → FindsFitting inner → (is : FileIndices) (s : Declaring) (x : Target)
    → IndicesFit is → DeclaringFits s → TargetAccepted x → Gives DeclaringFits (declaration_at_target inner is s x)
target_fits r is s nothing n f h = gives f
target_fits r is s (same_unit p) n f h = r p is s h n f
target_fits r is s (by_offset p) n f h = gives-bind (unit_files-fit p.unit p.unit.header s.table h.unit f.table) λ i k.
    r p i.indices (with_table s i.table) h k.indices (record { table = k.table; warnings = f.warnings; found = tt })

module _ (d : Dwarf) (accepted : DwarfAccepted d) where
  referenced_fits : {inner : DeclarationSearch} → FindsFitting inner → (p : Place) (is : FileIndices) → PlaceAccepted p → IndicesFit is
      → (ns : List ℕ) (s : Declaring) → DeclaringFits s → Gives DeclaringFits (referenced_declaration inner d p is ns s)
  unfolding referenced_declaration
  referenced_fits r p is h n [] s f = gives f
  referenced_fits r p is h n (k ∷ ks) s f =
      let later = referenced_fits r p is h n ks in
      gives-bind (follow-accepted d accepted p h s.trail (attribute p.entry k)) λ x a.
      gives-bind (target_fits r is (with_trail s x.trail) x.target n (record { table = f.table; warnings = f.warnings; found = tt }) a) λ y g.
      gives-cond (is_none y.found) (λ e. later y g) (λ e. gives g)

  resolve-fits : (k : ℕ) → FindsFitting (resolve_declaration k d)
  unfolding resolve_declaration
  resolve-fits zero p is s h n f = gives f
  resolve-fits (suc k) p is s h n f =
      let inner = resolve-fits k in
      gives-bind (own-fits p.unit p.entry s f is n h.entry) λ y g.
      gives-cond (is_none y.found) (λ e. referenced_fits inner p is h n origin_attributes y g) (λ e. gives g)

  pub gives-declaration : (u : CompilationUnit) (e : Entry) (is : FileIndices) (table : FileTable) (warnings : List Warning)
      → UnitAccepted u → EntryAccepted u.length e → IndicesFit is → TableFits table → All WarningFits warnings
      → Gives DeclaringFits (resolve_declaration_line d u e is table warnings)
  unfolding resolve_declaration_line
  gives-declaration u e is table warnings unit entry n k w =
      resolve-fits chain_limit (place_in u e) is (record { trail = empty_trail; table = table; warnings = warnings; found = none })
      (record { unit = unit; entry = entry }) n (record { table = k; warnings = w; found = tt })
