-- The ranges of a subprogram one after the other, and the failure to read them.
use mathlib.Core.Path.{◌≡◌, refl, sym, ap, ◌∙◌}
use mathlib.Core.Bool.{Bool, true, false, cond}
use mathlib.Core.List.{List, [], ◌∷◌, map, append-nil}
use mathlib.Core.Option.{Option, none, some}
use Prim.Native.Nat.{ℕ, zero, suc, ◌+◌, ◌-◌, ◌≤◌, ◌<◌}
use native.Mathlib.Omega.{arith}
use lib.Dec.{eqb}
use lib.ListN.{length, take, drop, length-take, length-drop}
use borrow.Author.Tests.{eq-eqb, ne_eqb}
use Rattle.std.specs.Prelude.{Some, None}
use Rattle.tlv.specs.declared.fields.FieldSpan.{FieldSpan}
use Rattle.tlv.specs.declared.model.AddressRange.{AddressRange}
use Rattle.tlv.specs.Cursor.{step_at}
use Rattle.tlv.specs.Outcome.{Outcome, done, ◌>>=◌}
use Rattle.tlv.specs.Bytes.{le_at}
use Rattle.tlv.specs.Lists.{map_option}
use Rattle.tlv.specs.Fields.{encode, fields, payload_of}
use Rattle.tlv.specs.Model.{Entry, EntryRange, RangeFailure, range_of, entry_range_of, failure_of}
use Rattle.tlv.specs.Checked.{Placed}
use Rattle.tlv.specs.Limits.{reason_limit}
use Rattle.tlv.proofs.WidthLaws.{drop_part}
use Rattle.tlv.proofs.ShapeLaws.{number_at, number-first}
use Rattle.tlv.proofs.PlacePromises.{placed-range, placed-failure, placed-reason}
use Rattle.tlv.proofs.PlaceFacts.{placed-start}
use Rattle.buffers.specs.Buffer.{top, Put}
use Rattle.buffers.specs.Table.{chunk}
use Rattle.buffers.specs.Output.{each_of, warning_payload, warnings_bytes, malformed_ranges, about, rejected_range}
use Rattle.buffers.proofs.BufferLaws.{put_as}
use Rattle.buffers.proofs.ChunkLaws.{le_at-chunk, le_at-front}
use Rattle.access.specs.Places.{own_fields, entry_here}
use Rattle.access.specs.Access.{NextOwn}
use Rattle.access.proofs.OwnLaws.{own-field, own-placed, own-within}
use Rattle.access.proofs.EntryPlaceLaws.{entry-ranges, entry-failure}
use Rattle.files.specs.declared.store.StoredFiles.{StoredFiles}
use Rattle.references.specs.Tables.{EntryKnown}
use Rattle.references.proofs.ReferenceLaws.{entry-step}
use Rattle.imports.specs.Import.{State, is_tombstone, is_live_range, rejected, import_range, import_ranges}
use Rattle.imports.specs.Import as import
use Rattle.ranges.specs.RangeTable.{range_fields}
use Rattle.subprograms.specs.declared.model.ImportState.{ImportState}
use Rattle.subprograms.specs.declared.model.ImportContext.{ImportContext}
use Rattle.subprograms.specs.Contexts.{ContextIn, context_with}
use Rattle.subprograms.specs.Steps.{sheets, memory, Imports, Rejects, import_one, import_failing, below_entry}
use Rattle.subprograms.proofs.ContextLaws.{context-same}
use Rattle.subprograms.proofs.StepLaws.{grows_none, refused_as, imports_then, grows-refused, grows_as, imports-rejected, imports-context}

-- ---- what the definition does

module _ (q : import.ImportContext) (e : Entry) (below : List Entry) (name : List ℕ) where
  -- one range, and then the others
  pub ranges-step : (x : EntryRange) (xs : List EntryRange) (s : State) → import_ranges q e below name (x ∷ xs) s ≡ import_one q e below name x s >>= import_ranges q e below name xs
  unfolding import_ranges import_one ◌>>=◌
  ranges-step x xs s = go (is_tombstone q.unit.text x) (is_live_range q.unit.text x.range)
    where
      dead : State
      dead = rejected (about rejected_range x.range.start x.range.end ∷ []) s

      go : (a b : Bool)
          → cond a (import_ranges q e below name xs (rejected [] s)) (cond b (import_range q e below name x.range s >>= import_ranges q e below name xs) (import_ranges q e below name xs dead))
          ≡ cond a (done (rejected [] s)) (cond b (import_range q e below name x.range s) (done dead)) >>= import_ranges q e below name xs
      go true b = refl
      go false true = refl
      go false false = refl

  pub ranges-none : (s : State) → import_ranges q e below name [] s ≡ done s
  unfolding import_ranges
  ranges-none s = refl

-- ---- the fields

-- an entry, by the place of its field 17
module _ {main supplementary w : List ℕ} {q : ImportContext} {T : StoredFiles} {p : ℕ} (C : ContextIn main supplementary w q T) (K : EntryKnown main q.context.unit p) where
  pub start-placed : Placed main 0
  start-placed = placed-start main C.tables.main-index.number C.tables.main-index.accepted

  given_is : (entry_here main p).ranges ≡ map entry_range_of (range_fields main (p + 15))
  given_is = entry-ranges main p _ 0x17 (p + 3) 12 (p + 15) refl (entry-step start-placed K)

  failure-is : (entry_here main p).failure ≡ map_option failure_of (payload_of 0x1a (own_fields (fields (drop (p + 15) main))))
  failure-is = entry-failure main p _ 0x17 (p + 3) 12 (p + 15) refl (entry-step start-placed K)

given-end : (s : List ℕ) (p : ℕ) → NextOwn s p 0x19 None → map entry_range_of (range_fields s p) ≡ []
given-end s p own = ap (map entry_range_of) (sym own.is)

module _ (s : List ℕ) (p : ℕ) (r : FieldSpan) (own : NextOwn s p 0x19 (Some r)) where
  module _ (h : Placed s p) where
    long : r.len ≡ 17
    long = let f = own-field s p 0x19 r own h in placed-range s f.place (step_at s f.place) 0x19 r.start r.len r.next f.here refl f.is refl

    given-more : (x : AddressRange) (dead : Bool) → x ≡ range_of (chunk s r.start 16) → dead ≡ eqb (le_at 1 s (r.start + 16)) 1
        → map entry_range_of (range_fields s p) ≡ record { range = x; tombstone = dead } ∷ map entry_range_of (range_fields s r.next)
    unfolding entry_range_of range_of
    given-more x dead ex ed =
        ap (map entry_range_of) (sym own.is) ∙ (λ i. record {
          range = (front ∙ sym ex) i;
          tombstone = (flag ∙ sym ed) i;
        } ∷ map entry_range_of (range_fields s r.next))
      where
        flag : eqb (le_at 1 (take r.len (drop r.start s)) 16) 1 ≡ eqb (le_at 1 s (r.start + 16)) 1
        flag = ap (λ (n : ℕ). eqb n 1) (number_at s r.start r.len 1 16 (le_at 1 s (r.start + 16)) (omega (arith, long)) refl)

        front : range_of (take r.len (drop r.start s)) ≡ range_of (chunk s r.start 16)
        front = λ i. record {
          start = number-first s r.start r.len 8 (le_at 8 (chunk s r.start 16) 0) (omega (arith, long)) (le_at-front 8 s r.start 16 (omega arith)) i;
          end = number_at s r.start r.len 8 8 (le_at 8 (chunk s r.start 16) 8) (omega (arith, long)) (le_at-chunk 8 s r.start 16 8 (omega arith)) i;
        }

-- ---- the loop

-- what the definition does, in the context that stands in w: these ranges, and one range
abbrev RangesFrom : List ℕ → List ℕ → List ℕ → List ℕ → ImportContext → List ℕ → ℕ → List ℕ → List EntryRange → State → Outcome State
RangesFrom main supplementary lists addresses q name p w xs = import_ranges (context_with main supplementary lists addresses w q) (entry_here main p) (below_entry main p) name xs

abbrev pub RangeOne : List ℕ → List ℕ → List ℕ → List ℕ → ImportContext → List ℕ → ℕ → List ℕ → AddressRange → Bool → State → Outcome State
RangeOne main supplementary lists addresses q name p w x dead = import_one (context_with main supplementary lists addresses w q) (entry_here main p) (below_entry main p) name (record { range = x; tombstone = dead })

-- whoever imports the ranges from place `at` on has imported all
pub record Going (main supplementary lists addresses : List ℕ) (q : ImportContext) (name : List ℕ) (p : ℕ) (w₀ t₀ f₀ u₀ : List ℕ) (st₀ : ImportState)
    (w t f u : List ℕ) (st : ImportState) (at : ℕ) : Type 0 where
  pub placed : Placed main at
  pub context : ContextIn main supplementary w q st.table
  pub same : context_with main supplementary lists addresses w q ≡ context_with main supplementary lists addresses w₀ q
  pub size : length w ≡ length w₀
  pub records-size : length t ≡ length t₀
  pub files-size : length f ≡ length f₀
  pub warnings-size : length u ≡ length u₀
  pub finish : (w' t' f' u' : List ℕ) (n : ℕ) (r : ImportState)
      → Imports (RangesFrom main supplementary lists addresses q name p w₀ (map entry_range_of (range_fields main at))) (sheets main supplementary) q (memory w t f u) st (memory w' t' f' u') n r
      → Imports (RangesFrom main supplementary lists addresses q name p w₀ (entry_here main p).ranges) (sheets main supplementary) q (memory w₀ t₀ f₀ u₀) st₀ (memory w' t' f' u') n r

module _ {main supplementary w₀ : List ℕ} {q : ImportContext} {p : ℕ} {st₀ : ImportState} (lists addresses name t₀ f₀ u₀ : List ℕ) where
  pub going_start : ContextIn main supplementary w₀ q st₀.table → EntryKnown main q.context.unit p → Placed main (p + 15)
      → Going main supplementary lists addresses q name p w₀ t₀ f₀ u₀ st₀ w₀ t₀ f₀ u₀ st₀ (p + 15)
  going_start C K h = record {
    placed = h;
    context = C;
    same = refl;
    size = refl;
    records-size = refl;
    files-size = refl;
    warnings-size = refl;
    finish = λ w' t' f' u' n r I. grows_as (λ s. ap (λ (xs : List EntryRange). RangesFrom main supplementary lists addresses q name p w₀ xs s) (given_is C K)) I;
  }

module _ {main supplementary lists addresses : List ℕ} {q : ImportContext} {name : List ℕ} {p : ℕ} {w₀ t₀ f₀ u₀ : List ℕ} {st₀ : ImportState} {w t f u : List ℕ} {st : ImportState} {at : ℕ}
    (G : Going main supplementary lists addresses q name p w₀ t₀ f₀ u₀ st₀ w t f u st at) where
  pub going_done : NextOwn main at 0x19 None → length t < top → length f < top → length u < top
      → Imports (RangesFrom main supplementary lists addresses q name p w₀ (entry_here main p).ranges) (sheets main supplementary) q (memory w₀ t₀ f₀ u₀) st₀ (memory w t f u) 0 st
  going_done N kt kf ku =
      G.finish w t f u 0 st
      (grows_as (λ s. ap (λ xs. RangesFrom main supplementary lists addresses q name p w₀ xs s) (given-end main at N) ∙ ranges-none (context_with main supplementary lists addresses w₀ q) (entry_here main p) (below_entry main p) name s)
      (grows_none G.context.files kt kf ku))

  module _ {field : FieldSpan} (N : NextOwn main at 0x19 (Some field)) where
    pub going-within : field.start + 17 ≤ length main
    going-within = omega (arith, long main at field N G.placed, own-within main at 0x19 field N)

    module _ {x : AddressRange} {dead : Bool} (ex : x ≡ range_of (chunk main field.start 16)) (ed : dead ≡ eqb (le_at 1 main (field.start + 16)) 1) {w' t' f' u' : List ℕ} {n : ℕ} {r : ImportState}
        (I : Imports (RangeOne main supplementary lists addresses q name p w x dead) (sheets main supplementary) q (memory w t f u) st (memory w' t' f' u') n r) where
      turn : (s : State) → RangesFrom main supplementary lists addresses q name p w₀ (map entry_range_of (range_fields main at)) s
          ≡ RangeOne main supplementary lists addresses q name p w x dead s
          >>= RangesFrom main supplementary lists addresses q name p w₀ (map entry_range_of (range_fields main field.next))
      turn s =
          ap (λ xs. RangesFrom main supplementary lists addresses q name p w₀ xs s) (given-more main at field N G.placed x dead ex ed)
          ∙ ranges-step (context_with main supplementary lists addresses w₀ q) (entry_here main p) (below_entry main p) name (record { range = x; tombstone = dead }) (map entry_range_of (range_fields main field.next)) s
          ∙ ap (λ (k : import.ImportContext). import_one k (entry_here main p) (below_entry main p) name (record { range = x; tombstone = dead }) s >>= RangesFrom main supplementary lists addresses q name p w₀ (map entry_range_of (range_fields main field.next))) (sym G.same)

      pub going-refused : {r' : ImportState} → (n ≡ 0 → ⊥)
          → Imports (RangesFrom main supplementary lists addresses q name p w₀ (entry_here main p).ranges) (sheets main supplementary) q (memory w₀ t₀ f₀ u₀) st₀ (memory w' t' f' u') n r'
      going-refused {r'} h = refused_as h (G.finish w' t' f' u' n r (grows_as turn (grows-refused (RangesFrom main supplementary lists addresses q name p w₀ (map entry_range_of (range_fields main field.next))) h I)))

      pub going_turn : n ≡ 0 → length w' ≡ length w → length t' ≡ length t → length f' ≡ length f → length u' ≡ length u
          → Going main supplementary lists addresses q name p w₀ t₀ f₀ u₀ st₀ w' t' f' u' r field.next
      going_turn z sw st sf su = record {
        placed = own-placed main at 0x19 field N G.placed;
        context = imports-context sw z G.context I;
        same = context-same G.context (I.kept z) lists addresses ∙ G.same;
        size = sw ∙ G.size;
        records-size = st ∙ G.records-size;
        files-size = sf ∙ G.files-size;
        warnings-size = su ∙ G.warnings-size;
        finish = λ w'' t'' f'' u'' m r'' J. G.finish w'' t'' f'' u'' m r'' (grows_as turn (imports_then q z I J));
      }

-- ---- a failure

abbrev ByFailure : List ℕ → List ℕ → List ℕ → List ℕ → ImportContext → List ℕ → ℕ → List ℕ → Option RangeFailure → State → Outcome State
ByFailure main supplementary lists addresses q name p w o =
    import_failing (context_with main supplementary lists addresses w q) (entry_here main p) (below_entry main p) name (entry_here main p).ranges o

-- the warning, as it was laid
pub reason-put : {at r : ℕ} {u u' : List ℕ} (stopped : Bool) (reason : List ℕ) → Put at (encode 0x46 (warning_payload (malformed_ranges stopped reason))) u u' r
    → Put at (warnings_bytes (malformed_ranges stopped reason ∷ [])) u u' r
unfolding warnings_bytes each_of
reason-put stopped reason P = put_as (append-nil (encode 0x46 (warning_payload (malformed_ranges stopped reason)))) P

take_twice : (n : ℕ) (xs : List ℕ) → take n (take n xs) ≡ take n xs
take_twice zero xs = refl
take_twice (suc n) [] = refl
take_twice (suc n) (x ∷ xs) = ap (λ ys. x ∷ ys) (take_twice n xs)

-- the reason, as the code has it
abbrev reason_at : List ℕ → ℕ → ℕ → List ℕ
reason_at main start len = take (start + len - (start + 1)) (drop (start + 1) main)

module _ {main : List ℕ} {at : ℕ} (h : Placed main at) {field : FieldSpan} (N : NextOwn main at 0x1a (Some field)) where
  pub named-within : (1 ≤ field.len) × (field.len - 1 ≤ reason_limit) × (field.start + field.len ≤ length main)
  named-within =
      let f = own-field main at 0x1a field N h in (
        placed-failure main f.place (step_at main f.place) 0x1a field.start field.len field.next f.here refl f.is refl,
        placed-reason main f.place (step_at main f.place) 0x1a field.start field.len field.next f.here refl f.is refl,
        (own-within main at 0x1a field N).0,
      )

  pub reason-short : 1 + length (reason_at main field.start field.len) < 65536
  reason-short = let w = named-within in rw length-take (omega arith)

  -- of its payload
  module _ {xs : List ℕ} (is : xs ≡ take field.len (drop field.start main)) where
    pub payload-length : length xs ≡ field.len
    payload-length = omega (arith, named-within, ap length is, length-take field.len (drop field.start main), length-drop field.start main)

    pub reason-part : take (length xs - 1) (drop 1 xs) ≡ reason_at main field.start field.len
    reason-part =
        let part : drop 1 xs ≡ take (field.len - 1) (drop (field.start + 1) main) = ap (drop 1) is ∙ drop_part main field.start field.len 1 in
        let same : field.len - 1 ≡ field.start + field.len - (field.start + 1) = omega arith in
        (λ i. take (payload-length i - 1) (part i)) ∙ take_twice (field.len - 1) (drop (field.start + 1) main)
        ∙ ap (λ n. take n (drop (field.start + 1) main)) same

  -- the failure that the field says
  failure-here : (stage : ℕ) → stage ≡ le_at 1 main field.start → failure_of (take field.len (drop field.start main)) ≡ record { stage = stage; reason = reason_at main field.start field.len }
  unfolding failure_of
  failure-here stage es = let w = named-within in λ i. record {
    stage = number-first main field.start field.len 1 stage (omega arith) es i;
    reason = (drop_part main field.start field.len 1 ∙ ap (λ n. take n (drop (field.start + 1) main)) same) i;
  }
    where
      same : field.len - 1 ≡ field.start + field.len - (field.start + 1)
      same = omega arith

-- the failure of the entry
module _ {main supplementary w : List ℕ} {q : ImportContext} {T : StoredFiles} {p : ℕ} (C : ContextIn main supplementary w q T) (K : EntryKnown main q.context.unit p)
  where
    failure-none : NextOwn main (p + 15) 0x1a None → (entry_here main p).failure ≡ none
    unfolding payload_of map_option
    failure-none N = rw (failure-is C K, ← N.is)

    failure-some : (h : Placed main (p + 15)) (field : FieldSpan) (stage : ℕ) → NextOwn main (p + 15) 0x1a (Some field) → stage ≡ le_at 1 main field.start
        → (entry_here main p).failure ≡ some (record { stage = stage; reason = reason_at main field.start field.len })
    unfolding payload_of map_option
    failure-some h field stage N es = rw (failure-is C K, ← N.is) (ap some (failure-here h N stage es))

module _ {main supplementary w : List ℕ} {q : ImportContext} {st : ImportState} {p : ℕ} (lists addresses name : List ℕ) (C : ContextIn main supplementary w q st.table) (K : EntryKnown main q.context.unit p)
    (h : Placed main (p + 15)) where
  pub named-whole : {t f u w' t' f' u' : List ℕ} {n : ℕ} {r : ImportState} → NextOwn main (p + 15) 0x1a None
      → Imports (RangesFrom main supplementary lists addresses q name p w (entry_here main p).ranges) (sheets main supplementary) q (memory w t f u) st (memory w' t' f' u') n r
      → Imports (ByFailure main supplementary lists addresses q name p w (entry_here main p).failure) (sheets main supplementary) q (memory w t f u) st (memory w' t' f' u') n r
  named-whole N I = grows_as (λ s. rw (failure-none C K N)) I

  module _ {field : FieldSpan} (N : NextOwn main (p + 15) 0x1a (Some field)) {stage : ℕ} (es : stage ≡ le_at 1 main field.start) where
    -- before any range
    pub named_none : {t f u u' : List ℕ} {warned : ℕ} {r : ImportState} → stage ≡ 0 → length t < top → length f < top
        → Put st.warned (encode 0x46 (warning_payload (malformed_ranges false (reason_at main field.start field.len)))) u u' warned → Rejects st warned r
        → Imports (ByFailure main supplementary lists addresses q name p w (entry_here main p).failure) (sheets main supplementary) q (memory w t f u) st (memory w t f u') 0 r
    named_none z kt kf P R =
        grows_as (λ s. rw (failure-some C K h field stage N es, eq-eqb stage 0 z))
        (imports-rejected (malformed_ranges false (reason_at main field.start field.len) ∷ []) C kt kf (reason-put false (reason_at main field.start field.len) P) R)

    module _ (n : stage ≡ 0 → ⊥) {t f u w' t' f' u' : List ℕ} {m : ℕ} {st' : ImportState}
        (I : Imports (RangesFrom main supplementary lists addresses q name p w (entry_here main p).ranges) (sheets main supplementary) q (memory w t f u) st (memory w' t' f' u') m st') where
      after : (s : State) → ByFailure main supplementary lists addresses q name p w (entry_here main p).failure s
          ≡ RangesFrom main supplementary lists addresses q name p w (entry_here main p).ranges s >>= λ t. done (rejected (malformed_ranges true (reason_at main field.start field.len) ∷ []) t)
      after s = rw (failure-some C K h field stage N es, ne_eqb stage 0 n)

      -- the ranges were refused
      pub named-refused : {r' : ImportState} → (m ≡ 0 → ⊥)
          → Imports (ByFailure main supplementary lists addresses q name p w (entry_here main p).failure) (sheets main supplementary) q (memory w t f u) st (memory w' t' f' u') m r'
      named-refused k = refused_as k (grows_as after (grows-refused (λ s. done (rejected (malformed_ranges true (reason_at main field.start field.len) ∷ []) s)) k I))

      -- after the ranges
      pub named-after : {u'' : List ℕ} {warned : ℕ} {r : ImportState} → m ≡ 0 → length w' ≡ length w → length t' < top → length f' < top
          → Put st'.warned (encode 0x46 (warning_payload (malformed_ranges true (reason_at main field.start field.len)))) u' u'' warned → Rejects st' warned r
          → Imports (ByFailure main supplementary lists addresses q name p w (entry_here main p).failure) (sheets main supplementary) q (memory w t f u) st (memory w' t' f' u'') 0 r
      named-after z size kt kf P R =
          grows_as after
          (imports_then q z I
          (imports-rejected (malformed_ranges true (reason_at main field.start field.len) ∷ []) (imports-context size z C I) kt kf (reason-put true (reason_at main field.start field.len) P) R))
