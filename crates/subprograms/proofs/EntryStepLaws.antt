-- One entry of a unit: passed over, refused, nameless, or imported by its name.
use mathlib.Core.Path.{◌≡◌, refl, sym, ap, ◌∙◌}
use mathlib.Core.Bool.{true, false}
use mathlib.Core.Logic.{inl}
use mathlib.Core.List.{List, [], ◌∷◌}
use Prim.Native.Nat.{ℕ, ◌+◌, ◌≤◌, ◌<◌}
use native.Mathlib.Omega.{arith}
use lib.ListN.{length}
use borrow.Author.Tests.{eq-eqb, ne_eqb}
use Rattle.std.specs.Prelude.{Some, None}
use Rattle.tlv.specs.Outcome.{refused, done, ◌>>=◌}
use Rattle.tlv.specs.Lists.{All, is_empty, at, map_option}
use Rattle.tlv.specs.Bytes.{Bytes, le_at}
use Rattle.tlv.specs.Model.{Entry, units}
use Rattle.tlv.specs.Accepted.{EntryAccepted, UnitAccepted}
use Rattle.tlv.specs.Checked.{Accepted}
use Rattle.tlv.proofs.ListLaws.{any_one, all-at, given-some}
use Rattle.tlv.proofs.AcceptedUnits.{accepting}
use Rattle.buffers.specs.Buffer.{top}
use Rattle.buffers.specs.Table.{Kept, KeptBut}
use Rattle.buffers.proofs.TableLaws.{kept-wide, but_one}
use Rattle.access.specs.Places.{entry_here, unit_here}
use Rattle.access.proofs.UnitPlaceLaws.{units-at}
use Rattle.files.specs.declared.store.StoredFiles.{StoredFiles}
use Rattle.files.specs.Store.{extent, table_of, FilesIn}
use Rattle.files.proofs.GrownLaws.{table_kept, files-kept}
use Rattle.references.specs.Search.{resolve_name}
use Rattle.references.specs.Keys.{keys_extent}
use Rattle.references.specs.Tables.{EntryKnown}
use Rattle.references.specs.Names.{dwarf_of, Resolved, found_name}
use Rattle.references.proofs.SectionLaws.{name-same}
use Rattle.references.proofs.NameBounds.{DwarfAccepted, name-string}
use Rattle.references.proofs.TargetLaws.{known-entry}
use Rattle.imports.specs.Tree.{die_ranges}
use Rattle.imports.specs.Import.{State, import_subprogram, import_by_failure}
use Rattle.imports.specs.Import as import
use Rattle.dies.specs.Details.{dwarf_with}
use Rattle.dies.proofs.CallLaws.{entry_tag-here}
use Rattle.dies.proofs.SiteStepLaws.{given-refused, given-done}
use Rattle.subprograms.specs.declared.model.ImportState.{ImportState}
use Rattle.subprograms.specs.declared.model.ImportContext.{ImportContext}
use Rattle.subprograms.specs.Contexts.{ContextIn, context_with, touched, walk_extent}
use Rattle.subprograms.specs.Steps.{sheets, memory, Imports, import_entry, below_entry}
use Rattle.subprograms.proofs.ContextLaws.{context-kept, context-same, touched-walk}
use Rattle.subprograms.proofs.StepLaws.{grows_beside, grows_none, grows_no, imports_then, grows_as}

-- ---- what the definition does

name-missing : (name : List ℕ) → None ≡ found_name name → is_empty name ≡ true
name-missing [] e = refl
name-missing (b ∷ bs) e = cc

name-found : (name : List ℕ) {x : List ℕ} → Some x ≡ found_name name → is_empty name ≡ false
name-found [] e = cc
name-found (b ∷ bs) e = refl

-- a name that was found is the bytes that were given
pub found-is : (name : List ℕ) {r : List ℕ} → Some r ≡ found_name name → r ≡ name
found-is [] is = let z : ◌≡◌ {A = ℕ} 0 1 = cc in absurd (omega arith)
found-is (b ∷ bs) is = cc

module _ (x : import.ImportContext) (e : Entry) (below : List Entry) (s : State) where
  entry_other : (e.tag ≡ 0x2e → ⊥) → import_entry x e below s ≡ done s
  unfolding import_entry
  entry_other h = rw (ne_eqb e.tag 0x2e h)

  module _ (is : e.tag ≡ 0x2e) where
    entry-refused : {n : ℕ} → resolve_name x.dwarf x.unit e ≡ refused n → import_entry x e below s ≡ refused n
    unfolding import_entry import_subprogram ◌>>=◌
    entry-refused h = rw (eq-eqb e.tag 0x2e is, h)

    module _ {name : List ℕ} (h : resolve_name x.dwarf x.unit e ≡ done name) where
      entry-nameless : is_empty name ≡ true → import_entry x e below s ≡ done s
      unfolding import_entry import_subprogram ◌>>=◌
      entry-nameless n = rw (eq-eqb e.tag 0x2e is, h, n)

      entry_named : is_empty name ≡ false → import_entry x e below s ≡ (done s >>= import_by_failure x e below name (die_ranges x.dwarf e).failure)
      unfolding import_entry import_subprogram ◌>>=◌
      entry_named n = rw (eq-eqb e.tag 0x2e is, h, n)

-- ---- the entry and its name, and what the search for it has written

module _ {main supplementary w : List ℕ} {q : ImportContext} {p : ℕ} {table : StoredFiles} (C : ContextIn main supplementary w q table) (K : EntryKnown main q.context.unit p) where
  accepted : Accepted main
  accepted = record { number = C.tables.main-index.number; is = C.tables.main-index.accepted }

  tag_is : (entry_here main p).tag ≡ le_at 2 main (p + 13)
  tag_is = entry_tag-here accepted K

  module _ (b : Bytes main) (b' : Bytes supplementary) where
    main-units : All UnitAccepted (units main)
    main-units = accepting main C.tables.main-index.number b C.tables.main-index.accepted

    unit-fine : UnitAccepted (unit_here main q.context.unit)
    unfolding map_option
    unit-fine =
        let k = C.unit.number in
        given-some UnitAccepted (at (units main) k) (unit_here main q.context.unit) (all-at UnitAccepted (units main) k main-units) (units-at main k ∙ ap (map_option (unit_here main)) C.unit.is)

    entry-fine : EntryAccepted (unit_here main q.context.unit).length (entry_here main p)
    entry-fine =
        any_one (unit_here main q.context.unit).entries (λ x at same. rw same at at) unit-fine.entries
        (known-entry C.tables.main-index.number C.tables.main-index.accepted K)

    -- a name is a string, and so shorter than a field
    pub name-fits : {st : ℕ} {name w₁ : List ℕ} → Resolved main supplementary q.context.tables w w₁ (resolve_name (dwarf_of main supplementary) (unit_here main q.context.unit) (entry_here main p)) st name
        → st ≡ 0 → 16 + length name < 65536
    name-fits {st} {name} R z =
        let both : DwarfAccepted (dwarf_of main supplementary) = record { main = main-units; supplementary = accepting supplementary C.tables.supplementary-index.number b' C.tables.supplementary-index.accepted } in
        let s = name-string (dwarf_of main supplementary) (unit_here main q.context.unit) (entry_here main p) name both unit-fine entry-fine (given-done st name R.is z) in
        omega (arith, s.1)

module _ {main supplementary w w₁ : List ℕ} {q : ImportContext} {table : StoredFiles} (C : ContextIn main supplementary w q table)
    (R : Kept w w₁ q.context.tables.keys (keys_extent main supplementary q.context.tables)) where
  -- it is in the walk's part
  walk-written : KeptBut w w₁ (touched main supplementary q table)
  walk-written =
      let O = C.ordered in
      touched-walk main supplementary q table
      (kept-wide q.context.ranges (walk_extent main supplementary q) R (omega (arith, O.ranges, O.stack, O.sites)) (omega (arith, O.ranges, O.stack, O.sites)))

  table_below : table.base + extent table ≤ q.context.tables.keys
  table_below =
      let O = C.ordered in
      omega (arith, O.table, O.indices, O.lines, O.sequences, O.buffer, O.text, O.spans, O.ranges, O.stack, O.sites)

  same-table : table_of main supplementary w₁ table ≡ table_of main supplementary w table
  same-table = table_kept C.files (but_one R) (inl table_below, tt)

  files-after : length w₁ ≡ length w → FilesIn main supplementary w₁ table
  files-after size = files-kept C.files (but_one R) (inl table_below, tt) size

  pub named-context : length w₁ ≡ length w → ContextIn main supplementary w₁ q table
  named-context size = context-kept C walk-written size refl refl (files-after size)

-- ---- the step

module _ {main supplementary w : List ℕ} (lists addresses : List ℕ) {q : ImportContext} {p : ℕ} (st : ImportState) (C : ContextIn main supplementary w q st.table) (K : EntryKnown main q.context.unit p) where
  -- another entry than a subprogram
  pub entry-passed : {t f u : List ℕ} → (le_at 2 main (p + 13) ≡ 0x2e → ⊥) → length t < top → length f < top → length u < top
      → Imports (import_entry (context_with main supplementary lists addresses w q) (entry_here main p) (below_entry main p)) (sheets main supplementary) q (memory w t f u) st (memory w t f u) 0 st
  entry-passed h small tiny few =
      grows_as (λ s. entry_other (context_with main supplementary lists addresses w q) (entry_here main p) (below_entry main p) s (λ e. h (sym (tag_is C K) ∙ e)))
      (grows_none C.files small tiny few)

  module _ (is : le_at 2 main (p + 13) ≡ 0x2e) {w₁ name : List ℕ} {st' : ℕ}
      (R : Resolved main supplementary q.context.tables w w₁ (resolve_name (dwarf_of main supplementary) (unit_here main q.context.unit) (entry_here main p)) st' name) where
    same_name : resolve_name (dwarf_with main supplementary lists addresses) (unit_here main q.context.unit) (entry_here main p)
        ≡ resolve_name (dwarf_of main supplementary) (unit_here main q.context.unit) (entry_here main p)
    same_name = name-same lists addresses (dwarf_of main supplementary) (unit_here main q.context.unit) (entry_here main p)

    pub name-refused : {t f u : List ℕ} → (st' ≡ 0 → ⊥)
        → Imports (import_entry (context_with main supplementary lists addresses w q) (entry_here main p) (below_entry main p)) (sheets main supplementary) q (memory w t f u) st (memory w₁ t f u) st' st
    name-refused h = grows_no h (λ rs ws. entry-refused (context_with main supplementary lists addresses w q) (entry_here main p) (below_entry main p) _ (tag_is C K ∙ is) (same_name ∙ given-refused st' name R.is h))

    module _ (size : length w₁ ≡ length w) (z : st' ≡ 0) {t f u : List ℕ} (small : length t < top) (tiny : length f < top) (few : length u < top) where
      searched : Imports done (sheets main supplementary) q (memory w t f u) st (memory w₁ t f u) 0 st
      searched = grows_beside (walk-written C R.rest) (same-table C R.rest) (files-after C R.rest size) small tiny few

      pub name-empty : None ≡ found_name name
          → Imports (import_entry (context_with main supplementary lists addresses w q) (entry_here main p) (below_entry main p)) (sheets main supplementary) q (memory w t f u) st (memory w₁ t f u) 0 st
      name-empty e =
          grows_as (λ s. entry-nameless (context_with main supplementary lists addresses w q) (entry_here main p) (below_entry main p) s (tag_is C K ∙ is) (same_name ∙ given-done st' name R.is z) (name-missing name e))
          searched

      pub name-given : {x : List ℕ} → Some x ≡ found_name name → {w₂ t₂ f₂ u₂ : List ℕ} {m : ℕ} {r : ImportState}
          → Imports (import_by_failure (context_with main supplementary lists addresses w₁ q) (entry_here main p) (below_entry main p) x (die_ranges (dwarf_with main supplementary lists addresses) (entry_here main p)).failure) (sheets main supplementary) q (memory w₁ t f u) st (memory w₂ t₂ f₂ u₂) m r
          → Imports (import_entry (context_with main supplementary lists addresses w q) (entry_here main p) (below_entry main p)) (sheets main supplementary) q (memory w t f u) st (memory w₂ t₂ f₂ u₂) m r
      name-given {x} e I =
          grows_as
          (λ s. entry_named (context_with main supplementary lists addresses w q) (entry_here main p) (below_entry main p) s (tag_is C K ∙ is) (same_name ∙ given-done st' name R.is z) (name-found name e)
          ∙ ap (λ (y : import.ImportContext). done s >>= import_by_failure y (entry_here main p) (below_entry main p) name (die_ranges (dwarf_with main supplementary lists addresses) (entry_here main p)).failure)
          (sym (context-same C (walk-written C R.rest) lists addresses))
          ∙ ap (λ (y : List ℕ). done s >>= import_by_failure (context_with main supplementary lists addresses w₁ q) (entry_here main p) (below_entry main p) y (die_ranges (dwarf_with main supplementary lists addresses) (entry_here main p)).failure) (sym (found-is name e)))
          (imports_then q refl searched I)
