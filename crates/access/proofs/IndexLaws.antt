-- Writing the index of a sheet's entries: a record of it, and a turn of the loop over the fields.
use mathlib.Core.Path.{◌≡◌, refl, sym, ap, ◌∙◌}
use mathlib.Core.Bool.{Bool, true, false, cond}
use mathlib.Core.Logic.{inl}
use mathlib.Core.List.{List, [], ◌∷◌, ◌++◌, append-nil, append_assoc}
use Prim.Native.Nat.{ℕ, suc, ◌+◌, ◌*◌, ◌^◌, ◌≤◌, ◌<◌}
use native.Mathlib.Omega.{arith}
use lib.Dec.{eqb}
use lib.ListN.{length, take, drop, length-append}
use borrow.Author.Tests.{eq-eqb, ne_eqb, eqb-true}
use Rattle.std.specs.Prelude.{Some, None}
use Rattle.tlv.specs.declared.fields.FieldSpan.{FieldSpan}
use Rattle.tlv.specs.Bytes.{le_at}
use Rattle.tlv.specs.Fields.{Field, FieldList, end, cut, more, fields, whole_fields, payloads}
use Rattle.tlv.specs.Grammar.{shaped, limited, next, check_from}
use Rattle.tlv.specs.Cursor.{step_at, field_from}
use Rattle.tlv.specs.Checked.{Accepts, field_in, Placed}
use Rattle.tlv.proofs.ShapeLaws.{number_at, number-first}
use Rattle.tlv.proofs.AcceptedGroups.{passed-both}
use Rattle.tlv.proofs.FieldLaws.{is-step, at-none, fields-field, field-within, payload-length, payload-within, next-within}
use Rattle.tlv.proofs.PlaceFacts.{placed-shaped}
use Rattle.tlv.proofs.PlacePromises.{placed-unit, placed-entry, placed-unit_fits}
use Rattle.buffers.specs.Table.{chunk, records, Kept, Wrote}
use Rattle.buffers.proofs.ChunkLaws.{le_at-chunk, le_at-front}
use Rattle.buffers.proofs.TableLaws.{kept_refl, kept_trans, kept-wide, le_at-kept}
use Rattle.buffers.proofs.RecordLaws.{records-length, records-nil, records-push}
use Rattle.access.specs.Places.{IndexedEntry, behind, entry_index}
use Rattle.access.specs.Index.{indexed_of, PutEntry, Indexed, Rising}
use Rattle.access.proofs.IndexOrder.{entry-high, index-rising}

-- ---- a record of the index

-- the numbers of a record
pub indexed-is : (w : List ℕ) (p o a u : ℕ) → le_at 8 w p ≡ o → le_at 4 w (p + 8) ≡ a → le_at 4 w (p + 12) ≡ u
    → indexed_of (chunk w p 16) ≡ record { offset = o; place = a; unit = u }
unfolding indexed_of
indexed-is w p o a u eo ea eu = λ i. record {
  offset = (le_at-front 8 w p 16 (omega arith) ∙ eo) i;
  place = (le_at-chunk 4 w p 16 8 (omega arith) ∙ ea) i;
  unit = (le_at-chunk 4 w p 16 12 (omega arith) ∙ eu) i;
}

-- its three numbers, written one after the other
pub put-indexed : {w w₁ w₂ w₃ : List ℕ} {p o a u : ℕ} → Wrote w w₁ p 8 o → Wrote w₁ w₂ (p + 8) 4 a → Wrote w₂ w₃ (p + 12) 4 u → PutEntry w w₃ p o a u
put-indexed {w} {w₁} {w₂} {w₃} {p} {o} {a} {u} A B C = record {
  entry = indexed-is w₃ p o a u
      (le_at-kept 8 p C.rest (inl (omega arith)) ∙ le_at-kept 8 p B.rest (inl (omega arith)) ∙ A.value)
      (le_at-kept 4 (p + 8) C.rest (inl (omega arith)) ∙ B.value)
      C.value;
  rest = kept_trans (kept-wide p 16 A.rest (omega arith) (omega arith))
      (kept_trans (kept-wide p 16 B.rest (omega arith) (omega arith)) (kept-wide p 16 C.rest (omega arith) (omega arith)));
}

-- ---- the entries from a field on

-- as many as fields 17
pub index-length : (p q o : ℕ) (fs : FieldList) → length (entry_index p q o fs) ≡ length (payloads 0x17 (whole_fields fs))
unfolding entry_index whole_fields payloads
index-length p q o end = refl
index-length p q o cut = refl
index-length p q o (more f fs) =
    go _ _ _ (eqb f.tag 0x10) (eqb f.tag 0x17) refl refl (index-length (behind p f) p (le_at 8 f.payload 0) fs) (index-length (behind p f) q o fs)
  where
    here : IndexedEntry
    here = record { offset = o + le_at 8 f.payload 0; place = p; unit = q }

    go : (es es' : List IndexedEntry) (ps : List (List ℕ)) (a b : Bool) → eqb f.tag 0x10 ≡ a → eqb f.tag 0x17 ≡ b → length es ≡ length ps → length es' ≡ length ps
        → length (cond a es (cond b (here ∷ es') es')) ≡ length (cond b (f.payload ∷ ps) ps)
    go es es' ps true true e d ih ih' = absurd (omega (arith, eqb-true f.tag 0x10 e, eqb-true f.tag 0x17 d))
    go es es' ps true false e d ih ih' = ih
    go es es' ps false true e d ih ih' = ap suc ih'
    go es es' ps false false e d ih ih' = ih'

-- what a field at p adds to them
module _ (p q o : ℕ) (f : Field) (fs : FieldList) (past : ℕ) (to : behind p f ≡ past) where
  pub index-unit : f.tag ≡ 0x10 → entry_index p q o (more f fs) ≡ entry_index past p (le_at 8 f.payload 0) fs
  unfolding entry_index
  index-unit is = rw (is, to)

  pub index-entry : f.tag ≡ 0x17 → entry_index p q o (more f fs) ≡ record { offset = o + le_at 8 f.payload 0; place = p; unit = q } ∷ entry_index past q o fs
  unfolding entry_index
  index-entry is = rw (is, to)

  pub index-other : (f.tag ≡ 0x10 → ⊥) → (f.tag ≡ 0x17 → ⊥) → entry_index p q o (more f fs) ≡ entry_index past q o fs
  unfolding entry_index
  index-other h k = rw (ne_eqb f.tag 0x10 h, ne_eqb f.tag 0x17 k, to)

-- the same by places
module _ (s : List ℕ) (p q o : ℕ) where
  here_end : None ≡ field_from s p → entry_index p q o (fields (drop p s)) ≡ []
  unfolding entry_index
  here_end at = at-none s p at (λ (fs : FieldList). entry_index p q o fs ≡ []) refl refl

  module _ (f : FieldSpan) (at : Some f ≡ field_from s p) where
    to : p + 3 + length (take f.len (drop f.start s)) ≡ f.next
    to = let w = field-within s p f at in omega (arith, payload-length s p f at)

    -- v is the offset in the payload
    module _ (v : ℕ) (ev : v ≡ le_at 8 s f.start) where
      here-unit : f.len ≡ 18 → f.tag ≡ 0x10 → entry_index p q o (fields (drop p s)) ≡ entry_index f.next p v (fields (drop f.next s))
      here-unit long is =
          rw (
            fields-field s p f at,
            index-unit p q o (field_in s f.tag f.start f.len) (fields (drop f.next s)) f.next to is,
            number-first s f.start f.len 8 v (omega arith) ev,
          )

      here-entry : f.len ≡ 12 → f.tag ≡ 0x17
          → entry_index p q o (fields (drop p s)) ≡ record { offset = o + v; place = p; unit = q } ∷ entry_index f.next q o (fields (drop f.next s))
      here-entry long is =
          rw (
            fields-field s p f at,
            index-entry p q o (field_in s f.tag f.start f.len) (fields (drop f.next s)) f.next to is,
            number-first s f.start f.len 8 v (omega arith) ev,
          )

    here-other : (f.tag ≡ 0x10 → ⊥) → (f.tag ≡ 0x17 → ⊥) → entry_index p q o (fields (drop p s)) ≡ entry_index f.next q o (fields (drop f.next s))
    here-other h k = rw (fields-field s p f at, index-other p q o (field_in s f.tag f.start f.len) (fields (drop f.next s)) f.next to h k)

-- the next place of a place is one, and its context is the next one
module _ (s : List ℕ) (p : ℕ) (f : FieldSpan) (h : Placed s p) (at : Some f ≡ field_from s p) where
  next-placed : Placed s f.next
  unfolding check_from
  next-placed =
      let c = h.context in
      let x = field_in s f.tag f.start f.len in
      record {
        context = next c x;
        count = h.count;
        passes = (passed-both (shaped c x) (limited c x) (check_from (next c x) (fields (drop f.next s))) h.count (rw (fields-field s p f at) at h.passes)).2;
        within = next-within s p f at;
      }

-- ---- the loop: n entries are written, those from p on are left, and the unit is at place `unit` and offset `offset`

pub record Indexing (s w₀ w : List ℕ) (base p n unit offset : ℕ) : Type 0 where
  pub placed : Placed s p
  pub fits : (o : ℕ) → o < placed.context.length → o < 2 ^ 64 → offset + o < 2 ^ 64
  pub unit-within : unit ≤ length s
  pub left : records indexed_of 16 w base n ++ entry_index p unit offset (fields (drop p s)) ≡ entry_index 0 0 0 (fields s)
  pub rest : Kept w₀ w base (16 * n)
  pub size : length w ≡ length w₀

pub indexing-start : (s w : List ℕ) (base : ℕ) → Placed s 0 → Indexing s w w base 0 0 0 0
indexing-start s w base h = record {
  placed = h;
  fits = λ o l b. omega arith;
  unit-within = omega arith;
  left = rw (records-nil indexed_of 16 w base);
  rest = kept_refl w base (16 * 0);
  size = refl;
}

module _ {s w₀ w : List ℕ} {base p n unit offset : ℕ} (I : Indexing s w₀ w base p n unit offset) where
  indexing_done : entry_index p unit offset (fields (drop p s)) ≡ [] → Indexed s w₀ w base n
  indexing_done none =
      let all : records indexed_of 16 w base n ≡ entry_index 0 0 0 (fields s) =
      sym (append-nil (records indexed_of 16 w base n)) ∙ rw none at I.left in
      record { table = all; count = sym (records-length indexed_of 16 w base n) ∙ ap length all; rest = I.rest; size = I.size }

  pub indexing_end : None ≡ field_from s p → Indexed s w₀ w base n
  indexing_end at = indexing_done (here_end s p unit offset at)

  module _ (f : FieldSpan) (at : Some f ≡ field_from s p) where
    -- the offset of a unit and of an entry can be read
    pub unit-read : f.tag ≡ 0x10 → f.start + 8 ≤ length s
    unit-read is =
        let l = placed-unit s p (step_at s p) f.tag f.start f.len f.next I.placed refl (is-step s p f at) is in
        let w = payload-within s p f at in
        omega arith

    pub entry_read : f.tag ≡ 0x17 → f.start + 8 ≤ length s
    entry_read is =
        let l = placed-entry s p (step_at s p) f.tag f.start f.len f.next I.placed refl (is-step s p f at) is in
        let w = payload-within s p f at in
        omega arith

    -- an entry's offset in the section fits, and there is room for its record
    pub sum_fits : (v : ℕ) → f.tag ≡ 0x17 → v ≡ le_at 8 s f.start → v < 2 ^ 64 → offset + v < 2 ^ 64
    sum_fits v is ev b =
        let l = placed-entry s p (step_at s p) f.tag f.start f.len f.next I.placed refl (is-step s p f at) is in
        let below : le_at 8 (take f.len (drop f.start s)) 0 < I.placed.context.length =
        entry-high I.placed.context (field_in s f.tag f.start f.len) (placed-shaped s p (step_at s p) f.tag f.start f.len f.next I.placed refl (is-step s p f at)) is in
        I.fits v (rw (number-first s f.start f.len 8 v (omega arith) ev) at below) b

    pub entry-room : f.tag ≡ 0x17 → base + 16 * length (payloads 0x17 (whole_fields (fields s))) ≤ length w₀ → base + n * 16 + 16 ≤ length w
    entry-room is h =
        let l = placed-entry s p (step_at s p) f.tag f.start f.len f.next I.placed refl (is-step s p f at) is in
        let here = here-entry s p unit offset f at (le_at 8 s f.start) refl l is in
        let count = ap length I.left in
        let size = I.size in
        omega (
          arith,
          rw (here, length-append, records-length) at count,
          index-length 0 0 0 (fields s),
        )

    pub turn-unit : (v : ℕ) → f.tag ≡ 0x10 → v ≡ le_at 8 s f.start → Indexing s w₀ w base f.next n p v
    unfolding next-placed next
    turn-unit v is ev =
        let long = placed-unit s p (step_at s p) f.tag f.start f.len f.next I.placed refl (is-step s p f at) is in
        let whole = placed-unit_fits s p (step_at s p) f.tag f.start f.len f.next I.placed refl (is-step s p f at) v (le_at 8 s (f.start + 8)) is ev refl in
        let size : le_at 8 (take f.len (drop f.start s)) 8 ≡ le_at 8 s (f.start + 8) = number_at s f.start f.len 8 8 _ (omega arith) refl in
        record {
          placed = next-placed s p f I.placed at;
          fits = λ o. rw (eq-eqb f.tag 0x10 is, size) (λ l b. omega arith);
          unit-within = I.placed.within;
          left = rw (← here-unit s p unit offset f at v ev long is) I.left;
          rest = I.rest;
          size = I.size;
        }

    pub turn-entry : (v : ℕ) {w' : List ℕ} → f.tag ≡ 0x17 → v ≡ le_at 8 s f.start → PutEntry w w' (base + n * 16) (offset + v) p unit → length w' ≡ length w
        → Indexing s w₀ w' base f.next (n + 1) unit offset
    unfolding next-placed next
    turn-entry v {w'} is ev P same =
        let long = placed-entry s p (step_at s p) f.tag f.start f.len f.next I.placed refl (is-step s p f at) is in
        let e₁ : IndexedEntry = record { offset = offset + v; place = p; unit = unit } in
        let here = here-entry s p unit offset f at v ev long is in
        record {
          placed = next-placed s p f I.placed at;
          fits = rw is I.fits;
          unit-within = I.unit-within;
          left = rw (records-push indexed_of 16 base n e₁ P.rest P.entry, append_assoc) (rw here at I.left);
          rest = kept_trans (kept-wide base (16 * (n + 1)) I.rest (omega arith) (omega arith)) (kept-wide base (16 * (n + 1)) P.rest (omega arith) (omega arith));
          size = same ∙ I.size;
        }

    pub turn-other : (f.tag ≡ 0x10 → ⊥) → (f.tag ≡ 0x17 → ⊥) → Indexing s w₀ w base f.next n unit offset
    unfolding next-placed next
    turn-other h k = record {
      placed = next-placed s p f I.placed at;
      fits = rw (ne_eqb f.tag 0x10 h, ne_eqb f.tag 0x17 k) I.fits;
      unit-within = I.unit-within;
      left = rw (← here-other s p unit offset f at h k) I.left;
      rest = I.rest;
      size = I.size;
    }

-- ---- the table of an accepted sheet is what a search asks for

pub table-rising : (s w : List ℕ) (base r n : ℕ) → Accepts s n → records indexed_of 16 w base r ≡ entry_index 0 0 0 (fields s)
    → Rising (records indexed_of 16 w base r)
table-rising s w base r n e table = rw table (index-rising s n e)
