-- The ranges of a subprogram's list one after the other, the list's fault, and where an entry's ranges come from.
use mathlib.Core.Path.{◌≡◌, refl, sym, ap, ◌∙◌}
use mathlib.Core.Bool.{Bool, true, false, cond, false≢true}
use mathlib.Core.List.{List, [], ◌∷◌}
use mathlib.Core.Option.{Option, none, some}
use Prim.Native.Nat.{ℕ, ◌+◌, ◌-◌, ◌/◌, ◌%◌, ◌≤◌, ◌<◌}
use native.Mathlib.Omega.{arith}
use lib.Dec.{eqb}
use lib.ListN.{length}
use borrow.Author.Tests.{ne_eqb, lt-ltb, le-ltb}
use Rattle.std.specs.Prelude.{Ok, Err, Some, None}
use Rattle.tlv.specs.declared.refusal.Refusal.{Refusal}
use Rattle.tlv.specs.Refusals.{number_of}
use Rattle.tlv.specs.Outcome.{Outcome, refused, done, ◌>>=◌}
use Rattle.tlv.specs.Fields.{encode}
use Rattle.tlv.specs.Model.{Entry, EntryRange, RangeFailure}
use Rattle.buffers.specs.Buffer.{Put, top}
use Rattle.buffers.specs.Output.{warning_payload, malformed_ranges}
use Rattle.access.specs.Places.{entry_here}
use Rattle.rnglists.specs.declared.lists.ListField.{ListField}
use Rattle.rnglists.specs.declared.lists.ListRange.{ListRange}
use Rattle.rnglists.specs.RangeLists.{ListRanges, faulty, and_before, decimal}
use Rattle.rnglists.specs.Sizes.{width_of}
use Rattle.rnglists.specs.Steps.{NextIs}
use Rattle.imports.specs.Import.{State, rejected, import_ranges}
use Rattle.imports.specs.Import as import
use Rattle.ranges.specs.RangeTable.{list_at}
use Rattle.subprograms.specs.declared.model.ImportState.{ImportState}
use Rattle.subprograms.specs.declared.model.ImportContext.{ImportContext}
use Rattle.subprograms.specs.Contexts.{ContextIn, context_with}
use Rattle.subprograms.specs.Steps.{sheets, memory, Imports, RejectsList, import_one, import_failing, import_listed, ranges_listed, below_entry}
use Rattle.subprograms.proofs.ContextLaws.{context-same}
use Rattle.subprograms.proofs.StepLaws.{grows_none, refused_as, imports_then, grows-refused, grows_as, imports-rejected, imports-context}
use Rattle.subprograms.proofs.RangesLaws.{RangeOne, ranges-step, ranges-none, reason-put}

-- ---- what the definition does

bind_assoc : {A B C : Type 0} (o : Outcome A) (f : A → Outcome B) (g : B → Outcome C) → ((o >>= f) >>= g) ≡ (o >>= λ a. f a >>= g)
unfolding ◌>>=◌
bind_assoc (refused n) f g = refl
bind_assoc (done a) f g = refl

module _ (q : import.ImportContext) (e : Entry) (below : List Entry) (name : List ℕ) where
  -- what follows the ranges of a list with a fault
  abbrev warns_after : List ℕ → State → Outcome State
  warns_after reason t = done (rejected (malformed_ranges true reason ∷ []) t)

  abbrev failed : Bool → List ℕ → Option RangeFailure
  failed b reason = cond b none (some (record { stage = 1; reason = reason }))

  -- one range, and then the list behind it
  failing-step : (b : Bool) (reason : List ℕ) (x : EntryRange) (xs : List EntryRange) (s : State)
      → import_failing q e below name (x ∷ xs) (failed b reason) s ≡ (import_one q e below name x s >>= λ t. import_failing q e below name xs (failed b reason) t)
  failing-step true reason x xs s = ranges-step q e below name x xs s
  failing-step false reason x xs s =
      ap (λ (o : Outcome State). o >>= warns_after reason) (ranges-step q e below name x xs s)
      ∙ bind_assoc (import_one q e below name x s) (import_ranges q e below name xs) (warns_after reason)

  listed-step : (x : EntryRange) (l : ListRanges) (s : State)
      → import_listed q e below name (and_before x l) s ≡ (import_one q e below name x s >>= λ t. import_listed q e below name l t)
  listed-step x l s = failing-step (eqb l.fault 0) (decimal l.fault) x l.given s

  -- the list ends
  listed-none : (s : State) → import_listed q e below name (faulty 0) s ≡ done s
  listed-none s = ranges-none q e below name s

  -- it has a fault here
  failing-none : (b : Bool) (reason : List ℕ) (s : State) → b ≡ false → import_failing q e below name [] (failed b reason) s ≡ warns_after reason s
  unfolding ◌>>=◌
  failing-none true reason s h = absurd (false≢true (sym h))
  failing-none false reason s h = ap (λ (o : Outcome State). o >>= warns_after reason) (ranges-none q e below name s)

  listed-fault : (n : ℕ) (s : State) → 7 ≤ n → import_listed q e below name (faulty n) s ≡ done (rejected (malformed_ranges true (decimal n) ∷ []) s)
  listed-fault n s h = failing-none (eqb n 0) (decimal n) s (ne_eqb n 0 (λ z. omega arith))

-- ---- the loop

-- what the definition does with a list, in the context that stands in w
abbrev ListFrom : List ℕ → List ℕ → List ℕ → List ℕ → ImportContext → List ℕ → ℕ → List ℕ → ListRanges → State → Outcome State
ListFrom main supplementary lists addresses q name p w l s =
    import_listed (context_with main supplementary lists addresses w q) (entry_here main p) (below_entry main p) name l s

-- whoever imports the list from place `at` on has imported all
pub record GoingList (main supplementary lists addresses : List ℕ) (q : ImportContext) (name : List ℕ) (p : ℕ) (list : ListField) (w₀ t₀ f₀ u₀ : List ℕ) (st₀ : ImportState)
    (w t f u : List ℕ) (st : ImportState) (place size at base : ℕ) : Type 0 where
  pub context : ContextIn main supplementary w q st.table
  pub same : context_with main supplementary lists addresses w q ≡ context_with main supplementary lists addresses w₀ q
  pub work-size : length w ≡ length w₀
  pub records-size : length t ≡ length t₀
  pub files-size : length f ≡ length f₀
  pub warnings-size : length u ≡ length u₀
  pub finish : (w' t' f' u' : List ℕ) (n : ℕ) (r : ImportState)
      → Imports (λ s. ListFrom main supplementary lists addresses q name p w₀ (list_at lists addresses place size at base) s) (sheets main supplementary) q (memory w t f u) st (memory w' t' f' u') n r
      → Imports (λ s. ListFrom main supplementary lists addresses q name p w₀ (ranges_listed lists addresses list) s) (sheets main supplementary) q (memory w₀ t₀ f₀ u₀) st₀ (memory w' t' f' u') n r

module _ {main supplementary w₀ : List ℕ} {q : ImportContext} {p : ℕ} {st₀ : ImportState} (lists addresses name t₀ f₀ u₀ : List ℕ)
    {list : ListField} where
  pub list-start : ContextIn main supplementary w₀ q st₀.table
      → GoingList main supplementary lists addresses q name p list w₀ t₀ f₀ u₀ st₀ w₀ t₀ f₀ u₀ st₀ list.addresses (width_of list.size) list.offset list.base
  list-start C = record {
    context = C;
    same = refl;
    work-size = refl;
    records-size = refl;
    files-size = refl;
    warnings-size = refl;
    finish = λ w' t' f' u' n r I. I;
  }

module _ {main supplementary lists addresses : List ℕ} {q : ImportContext} {name : List ℕ} {p : ℕ} {list : ListField} {w₀ t₀ f₀ u₀ : List ℕ} {st₀ : ImportState}
    {w t f u : List ℕ} {st : ImportState}
    {place size at base : ℕ} (G : GoingList main supplementary lists addresses q name p list w₀ t₀ f₀ u₀ st₀ w t f u st place size at base) where
  pub list_done : NextIs lists addresses place size at base (Ok None) → length t < top → length f < top → length u < top
      → Imports (λ s. ListFrom main supplementary lists addresses q name p w₀ (ranges_listed lists addresses list) s) (sheets main supplementary) q (memory w₀ t₀ f₀ u₀) st₀ (memory w t f u) 0 st
  list_done N kt kf ku =
      G.finish w t f u 0 st
      (grows_as (λ s. ap (λ (l : ListRanges). ListFrom main supplementary lists addresses q name p w₀ l s) (sym N.is)
      ∙ listed-none (context_with main supplementary lists addresses w₀ q) (entry_here main p) (below_entry main p) name s)
      (grows_none G.context.files kt kf ku))

  pub list-failed : {e : Refusal} → NextIs lists addresses place size at base (Err e) → {u' : List ℕ} {r : ImportState} → length t < top → length f < top → RejectsList st (number_of e) u u' r
      → Imports (λ s. ListFrom main supplementary lists addresses q name p w₀ (ranges_listed lists addresses list) s) (sheets main supplementary) q (memory w₀ t₀ f₀ u₀) st₀ (memory w t f u') 0 r
  list-failed {e} N {u'} {r} kt kf R =
      G.finish w t f u' 0 r
      (grows_as (λ s. ap (λ (l : ListRanges). ListFrom main supplementary lists addresses q name p w₀ l s) (sym N.is)
      ∙ listed-fault (context_with main supplementary lists addresses w₀ q) (entry_here main p) (below_entry main p) name (number_of e) s N.within)
      (imports-rejected (malformed_ranges true (decimal (number_of e)) ∷ []) G.context kt kf (reason-put true (decimal (number_of e)) R.put)
      R.rejects))

  module _ {x : ListRange} (N : NextIs lists addresses place size at base (Ok (Some x))) where
    pub list-less : length lists - x.next < length lists - at
    list-less = let z = N.within in omega (arith, z.0, z.1)

    module _ {w' t' f' u' : List ℕ} {n : ℕ} {r : ImportState}
        (I : Imports (RangeOne main supplementary lists addresses q name p w x.range x.dead) (sheets main supplementary) q (memory w t f u) st (memory w' t' f' u') n r) where
      turn : (s : State) → ListFrom main supplementary lists addresses q name p w₀ (list_at lists addresses place size at base) s
          ≡ (RangeOne main supplementary lists addresses q name p w x.range x.dead s
          >>= λ t. ListFrom main supplementary lists addresses q name p w₀ (list_at lists addresses place size x.next x.base) t)
      turn s =
          ap (λ (l : ListRanges). ListFrom main supplementary lists addresses q name p w₀ l s) (sym N.is)
          ∙ listed-step (context_with main supplementary lists addresses w₀ q) (entry_here main p) (below_entry main p) name (record { range = x.range; tombstone = x.dead })
          (list_at lists addresses place size x.next x.base) s
          ∙ ap (λ (k : import.ImportContext). import_one k (entry_here main p) (below_entry main p) name (record { range = x.range; tombstone = x.dead }) s
          >>= λ t. ListFrom main supplementary lists addresses q name p w₀ (list_at lists addresses place size x.next x.base) t) (sym G.same)

      pub list-refused : {r' : ImportState} → (n ≡ 0 → ⊥)
          → Imports (λ s. ListFrom main supplementary lists addresses q name p w₀ (ranges_listed lists addresses list) s) (sheets main supplementary) q (memory w₀ t₀ f₀ u₀) st₀ (memory w' t' f' u') n r'
      list-refused h =
          refused_as h (G.finish w' t' f' u' n r (grows_as turn
          (grows-refused (λ s. ListFrom main supplementary lists addresses q name p w₀ (list_at lists addresses place size x.next x.base) s) h I)))

      pub list-turn : n ≡ 0 → length w' ≡ length w → length t' ≡ length t → length f' ≡ length f → length u' ≡ length u
          → GoingList main supplementary lists addresses q name p list w₀ t₀ f₀ u₀ st₀ w' t' f' u' r place size x.next x.base
      list-turn z sw st sf su = record {
        context = imports-context sw z G.context I;
        same = context-same G.context (I.kept z) lists addresses ∙ G.same;
        work-size = sw ∙ G.work-size;
        records-size = st ∙ G.records-size;
        files-size = sf ∙ G.files-size;
        warnings-size = su ∙ G.warnings-size;
        finish = λ w'' t'' f'' u'' m r'' J. G.finish w'' t'' f'' u'' m r'' (grows_as turn (imports_then q z I J));
      }

-- ---- a fault's number in decimal, as the code has its digits

module _ (n : ℕ) {at r : ℕ} {u u' : List ℕ} where
  pub fault-digit : n < 10 → Put at (encode 0x46 (warning_payload (malformed_ranges true ((48 + n) ∷ [])))) u u' r
      → Put at (encode 0x46 (warning_payload (malformed_ranges true (decimal n)))) u u' r
  unfolding decimal
  fault-digit h P = rw (lt-ltb n 10 h) P

  pub fault-digits : 10 ≤ n → Put at (encode 0x46 (warning_payload (malformed_ranges true ((48 + n / 10) ∷ (48 + n % 10) ∷ [])))) u u' r
      → Put at (encode 0x46 (warning_payload (malformed_ranges true (decimal n)))) u u' r
  unfolding decimal
  fault-digits h P = rw (le-ltb n 10 h) P
