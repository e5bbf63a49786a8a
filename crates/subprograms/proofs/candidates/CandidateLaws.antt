-- One range of a subprogram: rejected in silence, imported, or rejected with a warning.
use mathlib.Core.Path.{◌≡◌, refl, sym, ap, ◌∙◌}
use mathlib.Core.Bool.{Bool, true, false}
use mathlib.Core.List.{List, [], ◌∷◌, ◌++◌}
use Prim.Native.Nat.{ℕ, ◌<◌}
use lib.ListN.{length}
use Rattle.tlv.specs.declared.model.AddressRange.{AddressRange}
use Rattle.tlv.specs.Outcome.{done}
use Rattle.tlv.specs.Bytes.{bytes_of}
use Rattle.tlv.specs.Fields.{encode}
use Rattle.tlv.specs.Model.{Entry, EntryRange}
use Rattle.buffers.specs.Buffer.{top, Put}
use Rattle.buffers.specs.Output.{kind_number, about, rejected_range}
use Rattle.access.specs.Places.{entry_here}
use Rattle.files.specs.declared.store.StoredFiles.{StoredFiles}
use Rattle.collect.proofs.LineLaws.{about-put}
use Rattle.imports.specs.Import.{State, is_tombstone, is_live_range, rejected, import_range}
use Rattle.imports.specs.Import as import
use Rattle.ranges.specs.RangeTable.{ranges_at}
use Rattle.dies.proofs.CallLaws.{warn_none}
use Rattle.subprograms.specs.declared.model.ImportState.{ImportState}
use Rattle.subprograms.specs.declared.model.ImportContext.{ImportContext}
use Rattle.subprograms.specs.Contexts.{ContextIn, context_with}
use Rattle.subprograms.specs.Steps.{sheets, memory, Imports, Rejects, below_entry, import_one}
use Rattle.subprograms.proofs.StepLaws.{grows_as, imports-rejected}

-- ---- what the definition does

module _ (q : import.ImportContext) (e : Entry) (below : List Entry) (name : List ℕ) (x : EntryRange) (s : State) where
  one-tombstone : is_tombstone q.unit.text x ≡ true → import_one q e below name x s ≡ done (rejected [] s)
  unfolding import_one
  one-tombstone h = rw h

  module _ (h : is_tombstone q.unit.text x ≡ false) where
    one-live : is_live_range q.unit.text x.range ≡ true → import_one q e below name x s ≡ import_range q e below name x.range s
    unfolding import_one
    one-live k = rw (h, k)

    one-dead : is_live_range q.unit.text x.range ≡ false
        → import_one q e below name x s ≡ done (rejected (about rejected_range x.range.start x.range.end ∷ []) s)
    unfolding import_one
    one-dead k = rw (h, k)

-- ---- what was done

-- the tests were made on the unit's executable ranges
module _ {main supplementary w : List ℕ} (lists addresses : List ℕ) {q : ImportContext} {T : StoredFiles} (C : ContextIn main supplementary w q T) where
  tombstone-is : {b v : Bool} (x : EntryRange) → b ≡ is_tombstone (ranges_at w q.text.base q.text.count) x → b ≡ v
      → is_tombstone (context_with main supplementary lists addresses w q).unit.text x ≡ v
  tombstone-is x is h = ap (λ ts. is_tombstone ts x) (sym C.text) ∙ sym is ∙ h

  live-is : {b v : Bool} (x : AddressRange) → b ≡ is_live_range (ranges_at w q.text.base q.text.count) x → b ≡ v
      → is_live_range (context_with main supplementary lists addresses w q).unit.text x ≡ v
  live-is x is h = ap (λ ts. is_live_range ts x) (sym C.text) ∙ sym is ∙ h

module _ {main supplementary w : List ℕ} (lists addresses : List ℕ) {q : ImportContext} {st : ImportState} (name : List ℕ) (p : ℕ) (x : EntryRange)
    (C : ContextIn main supplementary w q st.table) {b : Bool} (tomb : b ≡ is_tombstone (ranges_at w q.text.base q.text.count) x) where
  pub candidate-tombstone : {t f u : List ℕ} {r : ImportState} → b ≡ true
      → length t < top → length f < top → length u < top → Rejects st st.warned r
      → Imports (import_one (context_with main supplementary lists addresses w q) (entry_here main p) (below_entry main p) name x) (sheets main supplementary) q (memory w t f u) st (memory w t f u) 0 r
  candidate-tombstone h kt kf ku R =
      grows_as (λ s. one-tombstone (context_with main supplementary lists addresses w q) (entry_here main p) (below_entry main p) name x s (tombstone-is lists addresses C x tomb h))
      (imports-rejected [] C kt kf (warn_none st.within.1 ku) R)

  module _ (h : b ≡ false) {c : Bool} (live : c ≡ is_live_range (ranges_at w q.text.base q.text.count) x.range) where
    pub candidate-live : {t f u w' t' f' u' : List ℕ} {n : ℕ} {r : ImportState} → c ≡ true
        → Imports (import_range (context_with main supplementary lists addresses w q) (entry_here main p) (below_entry main p) name x.range) (sheets main supplementary) q (memory w t f u) st (memory w' t' f' u') n r
        → Imports (import_one (context_with main supplementary lists addresses w q) (entry_here main p) (below_entry main p) name x) (sheets main supplementary) q (memory w t f u) st (memory w' t' f' u') n r
    candidate-live k I = grows_as (λ s. one-live (context_with main supplementary lists addresses w q) (entry_here main p) (below_entry main p) name x s (tombstone-is lists addresses C x tomb h) (live-is lists addresses C x.range live k)) I

    pub candidate-dead : {t f u u' : List ℕ} {warned : ℕ} {r : ImportState} → c ≡ false → length t < top → length f < top
        → Put st.warned (encode 0x46 ((3 ∷ []) ++ bytes_of 8 x.range.start ++ bytes_of 8 x.range.end)) u u' warned → Rejects st warned r
        → Imports (import_one (context_with main supplementary lists addresses w q) (entry_here main p) (below_entry main p) name x) (sheets main supplementary) q (memory w t f u) st (memory w t f u') 0 r
    unfolding kind_number
    candidate-dead k kt kf P R =
        grows_as (λ s. one-dead (context_with main supplementary lists addresses w q) (entry_here main p) (below_entry main p) name x s (tombstone-is lists addresses C x tomb h) (live-is lists addresses C x.range live k))
        (imports-rejected (about rejected_range x.range.start x.range.end ∷ []) C kt kf
        (about-put rejected_range 3 x.range.start x.range.end refl P) R)
