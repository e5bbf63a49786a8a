-- Where an entry's ranges come from: its list, or its fields.
use mathlib.Core.Path.{◌≡◌, refl, sym, ap, ◌∙◌}
use mathlib.Core.Bool.{false}
use mathlib.Core.List.{List, [], ◌∷◌}
use mathlib.Core.Option.{Option, none, some}
use Prim.Native.Nat.{ℕ, ◌+◌}
use native.Mathlib.Omega.{arith}
use lib.ListN.{take, drop}
use Rattle.std.specs.Prelude.{Some, None}
use Rattle.tlv.specs.declared.fields.FieldSpan.{FieldSpan}
use Rattle.tlv.specs.Cursor.{field_here, step_at, span_of, field_from}
use Rattle.tlv.specs.Outcome.{Outcome}
use Rattle.tlv.specs.Bytes.{le_at}
use Rattle.tlv.specs.Lists.{map_option}
use Rattle.tlv.specs.Fields.{fields, payloads, payload_of}
use Rattle.tlv.specs.Model.{Entry, RangeFailure, range_list_of}
use Rattle.tlv.specs.Checked.{Placed}
use Rattle.tlv.proofs.ShapeLaws.{number_at, number-first}
use Rattle.tlv.proofs.PlacePromises.{placed-list}
use Rattle.access.specs.Places.{own_fields, entry_here}
use Rattle.access.specs.Access.{NextOwn}
use Rattle.access.proofs.OwnLaws.{own-field}
use Rattle.access.proofs.EntryPlaceLaws.{entry-list}
use Rattle.access.proofs.ListCountLaws.{lists-other}
use Rattle.files.specs.declared.store.StoredFiles.{StoredFiles}
use Rattle.rnglists.specs.declared.lists.ListField.{ListField}
use Rattle.rnglists.specs.RangeLists.{ListRanges, list_ranges, DieRanges, die_ranges_by}
use Rattle.rnglists.specs.Steps.{FieldIs}
use Rattle.references.specs.Tables.{EntryKnown}
use Rattle.references.proofs.ReferenceLaws.{entry-step}
use Rattle.imports.specs.Tree.{die_ranges}
use Rattle.imports.specs.Import.{State, import_by_failure}
use Rattle.imports.specs.Import as import
use Rattle.ranges.specs.RangeTable.{list_at, list_of, own_lists}
use Rattle.dies.specs.Details.{EntriesKnown, dwarf_with}
use Rattle.dies.proofs.EntryWalkLaws.{lists-entry, lists-most}
use Rattle.subprograms.specs.declared.model.ImportState.{ImportState}
use Rattle.subprograms.specs.declared.model.ImportContext.{ImportContext}
use Rattle.subprograms.specs.Contexts.{ContextIn, context_with}
use Rattle.subprograms.specs.Steps.{sheets, memory, Imports, import_failing, import_listed, ranges_listed, below_entry}
use Rattle.subprograms.proofs.StepLaws.{grows_as}
use Rattle.subprograms.proofs.RangesLaws.{start-placed}

-- ---- where an entry's ranges come from

-- by the ranges that the entry has
by-given : (q : import.ImportContext) (e : Entry) (below : List Entry) (name : List ℕ) (o : Option RangeFailure) (s : State)
    → import_by_failure q e below name o s ≡ import_failing q e below name (die_ranges q.dwarf e).given o s
by-given q e below name none s = refl
by-given q e below name (some f) s = refl

-- a field that stands at a place
span : (s : List ℕ) (p t start len next : ℕ) → step_at s p ≡ field_here t start len next → Some (record { tag = t; start = start; len = len; next = next }) ≡ field_from s p
unfolding span_of
span s p t start len next e = rw e

-- what the definition does with the ranges of the entry at p, wherever they come from, and with those of its fields 19 and 1a
abbrev NamedFrom : List ℕ → List ℕ → List ℕ → List ℕ → ImportContext → List ℕ → ℕ → List ℕ → State → Outcome State
NamedFrom main supplementary lists addresses q name p w =
    import_by_failure (context_with main supplementary lists addresses w q) (entry_here main p) (below_entry main p) name
    (die_ranges (dwarf_with main supplementary lists addresses) (entry_here main p)).failure

abbrev FieldsFrom : List ℕ → List ℕ → List ℕ → List ℕ → ImportContext → List ℕ → ℕ → List ℕ → State → Outcome State
FieldsFrom main supplementary lists addresses q name p w =
    import_failing (context_with main supplementary lists addresses w q) (entry_here main p) (below_entry main p) name (entry_here main p).ranges
    (entry_here main p).failure

abbrev own_payloads : List ℕ → ℕ → List (List ℕ)
own_payloads main p = payloads 0x1f (own_fields (fields (drop (p + 15) main)))

-- by what the entry's ranges are
sourced : {main supplementary : List ℕ} (lists addresses : List ℕ) (q : ImportContext) (name : List ℕ) (p : ℕ) {t f u w w' t' f' u' : List ℕ}
    {n : ℕ} {st r : ImportState} {d : DieRanges}
    → die_ranges (dwarf_with main supplementary lists addresses) (entry_here main p) ≡ d
    → Imports (λ s. import_failing (context_with main supplementary lists addresses w q) (entry_here main p) (below_entry main p) name d.given d.failure s) (sheets main supplementary) q (memory w t f u) st (memory w' t' f' u') n r
    → Imports (NamedFrom main supplementary lists addresses q name p w) (sheets main supplementary) q (memory w t f u) st (memory w' t' f' u') n r
sourced {main} {supplementary} lists addresses q name p {w = w} e I =
    grows_as
    (λ s. by-given (context_with main supplementary lists addresses w q) (entry_here main p) (below_entry main p) name
    (die_ranges (dwarf_with main supplementary lists addresses) (entry_here main p)).failure s
    ∙ ap (λ (d : DieRanges). import_failing (context_with main supplementary lists addresses w q) (entry_here main p) (below_entry main p) name d.given
    d.failure s) e)
    I

module _ {main supplementary w : List ℕ} {q : ImportContext} {T : StoredFiles} {p : ℕ} (C : ContextIn main supplementary w q T)
    (K : EntryKnown main q.context.unit p) where
  list-is : (entry_here main p).list ≡ map_option range_list_of (payload_of 0x1f (own_fields (fields (drop (p + 15) main))))
  list-is = entry-list main p _ 0x17 (p + 3) 12 (p + 15) refl (entry-step (start-placed C K) K)

  list-none : own_payloads main p ≡ [] → (entry_here main p).list ≡ none
  unfolding payload_of map_option
  list-none e = rw (list-is, e)

  -- from its fields 19 and 1a
  from_fields : (lists addresses name : List ℕ) {t f u w' t' f' u' : List ℕ} {n : ℕ} {st r : ImportState} → own_payloads main p ≡ []
      → Imports (FieldsFrom main supplementary lists addresses q name p w) (sheets main supplementary) q (memory w t f u) st (memory w' t' f' u') n r
      → Imports (NamedFrom main supplementary lists addresses q name p w) (sheets main supplementary) q (memory w t f u) st (memory w' t' f' u') n r
  unfolding die_ranges
  from_fields lists addresses name e I = sourced lists addresses q name p (ap (die_ranges_by lists addresses (entry_here main p)) (list-none e)) I

  -- no entry of a unit without lists has one
  pub own-listless : EntriesKnown main q.context.unit (p + 15) → q.context.with_lists ≡ false → own_lists main (p + 15) ≡ 0
  own-listless E n =
      let step = entry-step (start-placed C K) K in
      omega (
        arith,
        C.listless n,
        E.lists,
        lists-most main p,
        lists-entry main p (record { tag = 0x17; start = p + 3; len = 12; next = p + 15 }) (span _ _ _ _ _ _ step) refl,
        lists-other main p _ refl 0x17 (p + 3) 12 (p + 15) step (λ z. omega arith) (λ z. omega arith),
      )

  -- this one has none
  pub named-unlisted : NextOwn main (p + 15) 0x1f None → (lists addresses name : List ℕ) {t f u w' t' f' u' : List ℕ} {n : ℕ} {st r : ImportState}
      → Imports (FieldsFrom main supplementary lists addresses q name p w) (sheets main supplementary) q (memory w t f u) st (memory w' t' f' u') n r
      → Imports (NamedFrom main supplementary lists addresses q name p w) (sheets main supplementary) q (memory w t f u) st (memory w' t' f' u') n r
  named-unlisted N lists addresses name I = from_fields lists addresses name (sym N.is) I

  module _ {field : FieldSpan} (N : NextOwn main (p + 15) 0x1f (Some field)) (h : Placed main (p + 15)) where
    own_is : own_payloads main p ≡ take field.len (drop field.start main) ∷ payloads 0x1f (own_fields (fields (drop field.next main)))
    own_is = sym N.is

    long : field.len ≡ 25
    long = let x = own-field main (p + 15) 0x1f field N h in placed-list main x.place (step_at main x.place) 0x1f field.start field.len field.next x.here refl x.is refl

    -- the field's numbers
    read_is : range_list_of (take field.len (drop field.start main))
        ≡ record { offset = le_at 8 main field.start; base = le_at 8 main (field.start + 8); addresses = le_at 8 main (field.start + 16); size = le_at 1 main (field.start + 24) }
    unfolding range_list_of
    read_is = λ i. record {
      offset = number-first main field.start field.len 8 (le_at 8 main field.start) (omega (arith, long)) refl i;
      base = number_at main field.start field.len 8 8 (le_at 8 main (field.start + 8)) (omega (arith, long)) refl i;
      addresses = number_at main field.start field.len 8 16 (le_at 8 main (field.start + 16)) (omega (arith, long)) refl i;
      size = number_at main field.start field.len 1 24 (le_at 1 main (field.start + 24)) (omega (arith, long)) refl i;
    }

    list-some : (entry_here main p).list
        ≡ some (record { offset = le_at 8 main field.start; base = le_at 8 main (field.start + 8); addresses = le_at 8 main (field.start + 16); size = le_at 1 main (field.start + 24) })
    unfolding payload_of map_option
    list-some = rw (list-is, own_is, read_is)

    -- from its list
    pub named-listed : (lists addresses name : List ℕ) {t f u w' t' f' u' : List ℕ} {n : ℕ} {st r : ImportState} {list : ListField} → FieldIs main field.start list
        → Imports (import_listed (context_with main supplementary lists addresses w q) (entry_here main p) (below_entry main p) name
        (ranges_listed lists addresses list)) (sheets main supplementary) q (memory w t f u) st (memory w' t' f' u') n r
        → Imports (NamedFrom main supplementary lists addresses q name p w) (sheets main supplementary) q (memory w t f u) st (memory w' t' f' u') n r
    unfolding die_ranges list_ranges
    named-listed lists addresses name {list = list} F I =
        let whole : ranges_listed lists addresses list ≡ list_of main lists addresses field.start =
        λ i. list_at lists addresses (F.addresses i) (F.size i) (F.offset i) (F.base i) in
        sourced lists addresses q name p (ap (die_ranges_by lists addresses (entry_here main p)) list-some)
        (grows_as (λ s. ap (λ (l : ListRanges). import_listed (context_with main supplementary lists addresses w q) (entry_here main p) (below_entry main p) name l s) (sym whole)) I)
