-- The entries of a unit, one after the other.
use mathlib.Core.Path.{◌≡◌, refl, sym, ap, ◌∙◌}
use mathlib.Core.Bool.{Bool, true, false, ◌&&◌, false≢true}
use mathlib.Core.List.{List, [], ◌∷◌}
use Prim.Native.Nat.{ℕ, ◌+◌, ◌≤◌, ◌<◌}
use native.Mathlib.Omega.{arith}
use lib.Dec.{eqb}
use lib.ListN.{length}
use borrow.Author.Tests.{eqb-true, eqb-false, eq-eqb}
use Rattle.std.specs.Prelude.{Some, None}
use Rattle.tlv.specs.declared.fields.FieldSpan.{FieldSpan}
use Rattle.tlv.specs.Outcome.{Outcome, refused, done, ◌>>=◌}
use Rattle.tlv.specs.Bytes.{le_at}
use Rattle.tlv.specs.Checked.{Placed}
use Rattle.tlv.specs.Cursor.{step_at, field_from}
use Rattle.tlv.specs.Model.{Entry, unit_of}
use Rattle.tlv.proofs.CursorLaws.{fields-field}
use Rattle.tlv.proofs.FieldLaws.{is-step, field-within}
use Rattle.tlv.proofs.PlaceFacts.{placed-start, placed-next}
use Rattle.tlv.proofs.PlacePromises.{placed-entry}
use Rattle.tlv.proofs.TestLaws.{and_left}
use Rattle.buffers.specs.Buffer.{top}
use Rattle.access.specs.Places.{entry_here, unit_here}
use Rattle.access.proofs.IndexModel.{either}
use Rattle.files.specs.declared.store.StoredFiles.{StoredFiles}
use Rattle.files.specs.Pieces.{UnitPlaced}
use Rattle.files.proofs.UnitLaws.{unit-next, unit-within}
use Rattle.collect.proofs.HeaderPlaces.{unit-stands}
use Rattle.references.specs.Tables.{EntryKnown}
use Rattle.imports.specs.Import.{State, import_unit_details, descendants_of}
use Rattle.imports.specs.Import as import
use Rattle.dies.specs.Details.{EntriesKnown, entries_from}
use Rattle.dies.proofs.EntryWalkLaws.{from-none, from-unit, from-entry, from-other, known-here, known-entry, known-other}
use Rattle.dies.proofs.EntryStartLaws.{known_start}
use Rattle.subprograms.specs.declared.model.ImportState.{ImportState}
use Rattle.subprograms.specs.declared.model.ImportContext.{ImportContext}
use Rattle.subprograms.specs.Contexts.{ContextIn, context_with}
use Rattle.subprograms.specs.Steps.{sheets, memory, Imports, import_entry, below_entry}
use Rattle.subprograms.proofs.ContextLaws.{unit-of, context-same}
use Rattle.subprograms.proofs.EntryStepLaws.{entry-passed}
use Rattle.subprograms.proofs.StepLaws.{grows_none, refused_as, imports_then, grows-refused, grows_as, imports-context}

-- ---- what the definition does

module _ (x : import.ImportContext) where
  details-cons : (e : Entry) (es : List Entry) (s : State) → import_unit_details x (e ∷ es) s ≡ (import_entry x e (descendants_of e.depth es) s >>= import_unit_details x es)
  unfolding import_unit_details import_entry ◌>>=◌
  details-cons e es s = either (eqb e.tag 0x2e) (λ a. rw a) (λ a. rw a)

  after_none : (o : Outcome State) → (o >>= import_unit_details x []) ≡ o
  unfolding import_unit_details ◌>>=◌
  after_none (refused n) = refl
  after_none (done s) = refl

  after-cons : (e : Entry) (es : List Entry) (o : Outcome State) → (o >>= import_unit_details x (e ∷ es)) ≡ ((o >>= import_entry x e (descendants_of e.depth es)) >>= import_unit_details x es)
  unfolding ◌>>=◌
  after-cons e es (refused n) = refl
  after-cons e es (done s) = details-cons e es s

  after-done : (es : List Entry) (s : State) → import_unit_details x es s ≡ (done s >>= import_unit_details x es)
  unfolding ◌>>=◌
  after-done es s = refl

-- ---- where the entries of a unit begin

entries-here : {s : List ℕ} {q : ℕ} → UnitPlaced s q → (unit_here s q).entries ≡ entries_from s (q + 21)
unfolding unit_here unit_of entries_from
entries-here {s} {q} U = rw (fields-field s q (step_at s q) 0x10 (q + 3) 18 (q + 21) refl U.is)

module _ {main supplementary w : List ℕ} {q : ImportContext} {table : StoredFiles} (C : ContextIn main supplementary w q table) where
  stands : UnitPlaced main q.context.unit
  stands = unit-stands (placed-start main C.tables.main-index.number C.tables.main-index.accepted) C.unit

  pub unit-inside : q.context.unit + 21 ≤ length main
  unit-inside = unit-within stands

-- ---- the loop

-- what was done so far, and that the whole is this and then the entries that are left
pub record Importing (main supplementary lists addresses : List ℕ) (q : ImportContext) (w₀ t₀ f₀ u₀ : List ℕ) (st₀ : ImportState) (w t f u : List ℕ) (st : ImportState) (place : ℕ) : Type 0 where
  pub placed : Placed main place
  pub known : EntriesKnown main q.context.unit place
  pub context : ContextIn main supplementary w q st.table
  pub same : context_with main supplementary lists addresses w q ≡ context_with main supplementary lists addresses w₀ q
  pub size : length w ≡ length w₀
  pub records-size : length t ≡ length t₀
  pub files-size : length f ≡ length f₀
  pub warnings-size : length u ≡ length u₀
  pub before : State → Outcome State
  pub does : Imports before (sheets main supplementary) q (memory w₀ t₀ f₀ u₀) st₀ (memory w t f u) 0 st
  pub left : (s : State) → import_unit_details (context_with main supplementary lists addresses w₀ q) (unit_here main q.context.unit).entries s
      ≡ (before s >>= import_unit_details (context_with main supplementary lists addresses w₀ q) (entries_from main place))

pub importing-start : {main supplementary w t f u : List ℕ} (lists addresses : List ℕ) {q : ImportContext} {st : ImportState} → ContextIn main supplementary w q st.table
    → length t < top → length f < top → length u < top → Importing main supplementary lists addresses q w t f u st w t f u st (q.context.unit + 21)
importing-start {main} {supplementary} {w} lists addresses {q} {st} C small tiny few = record {
  placed = unit-next (stands C);
  known = known_start main q.context.unit (q.context.unit + 3) 18 (q.context.unit + 21) (stands C).is (unit-of C.unit);
  context = C;
  same = refl;
  size = refl;
  records-size = refl;
  files-size = refl;
  warnings-size = refl;
  before = done;
  does = grows_none C.files small tiny few;
  left = λ s. ap (λ (es : List Entry). import_unit_details (context_with main supplementary lists addresses w q) es s) (entries-here (stands C)) ∙ after-done (context_with main supplementary lists addresses w q) (entries_from main (q.context.unit + 21)) s;
}

module _ {main supplementary lists addresses : List ℕ} {q : ImportContext} {w₀ t₀ f₀ u₀ : List ℕ} {st₀ : ImportState} {w t f u : List ℕ} {st : ImportState} {place : ℕ}
    (I : Importing main supplementary lists addresses q w₀ t₀ f₀ u₀ st₀ w t f u st place) where
  -- nothing is left
  ended : entries_from main place ≡ [] → Imports (import_unit_details (context_with main supplementary lists addresses w₀ q) (unit_here main q.context.unit).entries) (sheets main supplementary) q (memory w₀ t₀ f₀ u₀) st₀ (memory w t f u) 0 st
  ended e =
      grows_as
      (λ s. I.left s ∙ ap (λ (es : List Entry). I.before s >>= import_unit_details (context_with main supplementary lists addresses w₀ q) es) e ∙ after_none (context_with main supplementary lists addresses w₀ q) (I.before s))
      I.does

  pub importing-none : None ≡ field_from main place
      → Imports (import_unit_details (context_with main supplementary lists addresses w₀ q) (unit_here main q.context.unit).entries) (sheets main supplementary) q (memory w₀ t₀ f₀ u₀) st₀ (memory w t f u) 0 st
  importing-none none = ended (from-none main place none)

  module _ {field : FieldSpan} (there : Some field ≡ field_from main place) where
    pub importing-unit : field.tag ≡ 0x10 → Imports (import_unit_details (context_with main supplementary lists addresses w₀ q) (unit_here main q.context.unit).entries) (sheets main supplementary) q (memory w₀ t₀ f₀ u₀) st₀ (memory w t f u) 0 st
    importing-unit is = ended (from-unit main place field there is)

    importing-other : (field.tag ≡ 0x10 → ⊥) → (field.tag ≡ 0x17 → ⊥) → Importing main supplementary lists addresses q w₀ t₀ f₀ u₀ st₀ w t f u st field.next
    importing-other h k = record {
      placed = placed-next main place (step_at main place) field.tag field.start field.len field.next I.placed refl (is-step main place field there);
      known = known-other main place field there I.known h k;
      context = I.context;
      same = I.same;
      size = I.size;
      records-size = I.records-size;
      files-size = I.files-size;
      warnings-size = I.warnings-size;
      before = I.before;
      does = I.does;
      left = λ s. I.left s ∙ ap (λ (es : List Entry). I.before s >>= import_unit_details (context_with main supplementary lists addresses w₀ q) es) (from-other main place field there h k);
    }

    module _ (is : field.tag ≡ 0x17) where
      next-is : field.next ≡ place + 15
      next-is =
          let b = field-within main place field there in
          let l = placed-entry main place (step_at main place) field.tag field.start field.len field.next I.placed refl (is-step main place field there) is in
          omega arith

      pub entry-known : EntryKnown main q.context.unit place
      entry-known = known-here main place field there I.known is

      pub entry-rest : (Placed main (place + 15)) × EntriesKnown main q.context.unit (place + 15)
      entry-rest = (rw next-is at (placed-next main place (step_at main place) field.tag field.start field.len field.next I.placed refl (is-step main place field there)), rw next-is at (known-entry main place field there I.known is))

      entries-are : entries_from main place ≡ entry_here main place ∷ entries_from main (place + 15)
      entries-are = from-entry main place field there is ∙ ap (λ (n : ℕ). entry_here main place ∷ entries_from main n) next-is

      module _ {w' t' f' u' : List ℕ} {m : ℕ} {st' : ImportState}
          (A : Imports (import_entry (context_with main supplementary lists addresses w q) (entry_here main place) (below_entry main place)) (sheets main supplementary) q (memory w t f u) st (memory w' t' f' u') m st') where
        abbrev through : State → Outcome State
        through s = I.before s >>= import_entry (context_with main supplementary lists addresses w q) (entry_here main place) (below_entry main place)

        passed : Imports through (sheets main supplementary) q (memory w₀ t₀ f₀ u₀) st₀ (memory w' t' f' u') m st'
        passed = imports_then q refl I.does A

        left_after : (s : State) → import_unit_details (context_with main supplementary lists addresses w₀ q) (unit_here main q.context.unit).entries s
            ≡ (through s >>= import_unit_details (context_with main supplementary lists addresses w₀ q) (entries_from main (place + 15)))
        left_after s =
            let x = context_with main supplementary lists addresses w₀ q in
            I.left s ∙ ap (λ (es : List Entry). I.before s >>= import_unit_details x es) entries-are ∙ after-cons x (entry_here main place) (entries_from main (place + 15)) (I.before s)
            ∙ ap (λ (y : import.ImportContext). (I.before s >>= import_entry y (entry_here main place) (below_entry main place)) >>= import_unit_details x (entries_from main (place + 15))) (sym I.same)

        pub importing-refused : {r' : ImportState} → (m ≡ 0 → ⊥)
            → Imports (import_unit_details (context_with main supplementary lists addresses w₀ q) (unit_here main q.context.unit).entries) (sheets main supplementary) q (memory w₀ t₀ f₀ u₀) st₀ (memory w' t' f' u') m r'
        importing-refused z = refused_as z (grows_as left_after (grows-refused (import_unit_details (context_with main supplementary lists addresses w₀ q) (entries_from main (place + 15))) z passed))

        pub importing-entry : m ≡ 0 → length w' ≡ length w → length t' ≡ length t → length f' ≡ length f → length u' ≡ length u
            → Importing main supplementary lists addresses q w₀ t₀ f₀ u₀ st₀ w' t' f' u' st' field.next
        importing-entry z lw lt lf lu = record {
          placed = placed-next main place (step_at main place) field.tag field.start field.len field.next I.placed refl (is-step main place field there);
          known = known-entry main place field there I.known is;
          context = imports-context lw z I.context A;
          same = context-same I.context (A.kept z) lists addresses ∙ I.same;
          size = lw ∙ I.size;
          records-size = lt ∙ I.records-size;
          files-size = lf ∙ I.files-size;
          warnings-size = lu ∙ I.warnings-size;
          before = through;
          does = rw z at passed;
          left = rw next-is left_after;
        }

    -- whether an entry stands here that is a subprogram
    pub subprogram-inside : field.tag ≡ 0x17 → place + 15 ≤ length main
    subprogram-inside is = (entry-rest is).0.within

    module _ {b : Bool} (test : b ≡ (eqb field.tag 0x17 && eqb (le_at 2 main (place + 13)) 0x2e)) where
      pub subprogram-entry : b ≡ true → field.tag ≡ 0x17
      subprogram-entry y = eqb-true field.tag 0x17 (and_left (eqb field.tag 0x17) (eqb (le_at 2 main (place + 13)) 0x2e) (sym test ∙ y))

      -- none stands here
      pub importing-passed : (field.tag ≡ 0x10 → ⊥) → b ≡ false → Importing main supplementary lists addresses q w₀ t₀ f₀ u₀ st₀ w t f u st field.next
      importing-passed h n =
          either (eqb field.tag 0x17)
          (λ y.
          let is : field.tag ≡ 0x17 = eqb-true field.tag 0x17 y in
          importing-entry is
          (entry-passed lists addresses st I.context (entry-known is) (λ z. false≢true (sym n ∙ test ∙ rw (y, eq-eqb (le_at 2 main (place + 13)) 0x2e z)))
          (omega (arith, I.records-size, (I.does.laid refl).small))
          (omega (arith, I.files-size, (I.does.grown refl).put.small))
          (omega (arith, I.warnings-size, (I.does.warned refl).small)))
          refl refl refl refl refl)
          (λ k. importing-other h (eqb-false field.tag 0x17 k))
