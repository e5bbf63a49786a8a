-- The ranges of an inlined entry, of its fields 19 or of its list: what each source gives, and which one it is.
use mathlib.Core.Path.{◌≡◌, refl, sym, ap, ◌∙◌, subst}
use mathlib.Core.Bool.{Bool, true, false, true≢false, false≢true, ◌&&◌, ◌||◌}
use mathlib.Core.Logic.{◌⊎◌, inl, inr}
use mathlib.Core.List.{List, [], ◌∷◌}
use Prim.Native.Nat.{ℕ, ◌+◌, ◌*◌, ◌/◌, ◌≤◌}
use native.Mathlib.Omega.{arith}
use borrow.Author.Tests.{eqb-true}
use lib.Dec.{eqb}
use lib.ListN.{length, take, drop}
use Rattle.tlv.specs.Addresses.{Nonempty}
use Rattle.tlv.specs.Bytes.{le_at}
use Rattle.tlv.specs.Lists.{All, map_option}
use Rattle.tlv.specs.Fields.{fields, payloads, payload_of}
use Rattle.tlv.specs.Grammar.{may_follow, payload_shaped, shaped, list_shaped}
use Rattle.tlv.specs.Model.{range_list_of}
use Rattle.tlv.specs.Checked.{Placed}
use Rattle.tlv.proofs.TestLaws.{and_right, or_either}
use Rattle.tlv.proofs.ShapeLaws.{number_at, number-first}
use Rattle.tlv.proofs.PlaceFacts.{placed-shaped}
use Rattle.tlv.proofs.PlacePromises.{placed-list}
use Rattle.buffers.proofs.TableLaws.{kept_refl}
use Rattle.std.specs.Prelude.{Result, Ok, Err, Option, Some, None, IsSome, IsNone}
use Rattle.tlv.specs.declared.refusal.Refusal.{Refusal}
use Rattle.tlv.specs.declared.fields.FieldSpan.{FieldSpan}
use Rattle.tlv.specs.Cursor.{step_at}
use Rattle.access.specs.Places.{own_fields}
use Rattle.access.specs.Access.{NextOwn}
use Rattle.access.proofs.OwnLaws.{own-field, own-within}
use Rattle.rnglists.specs.declared.lists.ListField.{ListField}
use Rattle.rnglists.specs.Sizes.{width_of}
use Rattle.rnglists.specs.Steps.{FieldIs}
use Rattle.rnglists.specs.RangeLists.{ListRanges, list_ranges, listed}
use Rattle.ranges.specs.RangeTable.{ranges_at, range_fields, own_lists, Gathered, list_at, list_of, list_given, GatheredList, MergedBy, read_at, Merges, MergesList, MergesFields}
use Rattle.ranges.proofs.GatherLaws.{fit-nonempty}

-- ---- a list

-- the list by the numbers of its field
list_same : (lists addresses : List ℕ) {s : List ℕ} {start : ℕ} {f : ListField} → FieldIs s start f
    → list_at lists addresses f.addresses (width_of f.size) f.offset f.base ≡ list_of s lists addresses start
list_same lists addresses F = λ i. list_at lists addresses (F.addresses i) (F.size i) (F.offset i) (F.base i)

module _ {lists addresses w w₁ : List ℕ} {place size offset base q m to : ℕ} where
  module _ {n : ℕ} (G : GatheredList lists addresses place size offset base w w₁ q m to (Ok n)) where
    pub list-nonempty : All Nonempty (ranges_at w₁ to n)
    list-nonempty = rw G.is.1 (fit-nonempty (ranges_at w q m) (list_given (list_at lists addresses place size offset base)))

-- ---- fields 19 and 1a

module _ {s w : List ℕ} {p q m to : ℕ} where
  pub field-refused : (o : Option FieldSpan) → IsSome o → NextOwn s p 0x1a o → MergesFields s p w w q m to (Err Refusal.Decoder)
  unfolding payload_of map_option
  field-refused None h N = absurd (false≢true h)
  field-refused (Some f) h N = record { is = (rw (← N.is) refl, refl, omega arith); few = tt; rest = kept_refl w to (16 * length (range_fields s p)) }

  pub field-merged : {w₁ : List ℕ} {k : ℕ} (o : Option FieldSpan) → IsNone o → NextOwn s p 0x1a o → Gathered s p w w₁ q m to k → MergesFields s p w w₁ q m to (Ok k)
  unfolding payload_of map_option
  field-merged None h N G = record { is = (rw (← N.is) refl, G.ranges); few = G.few; rest = G.rest }
  field-merged (Some f) h N G = absurd (true≢false h)

-- ---- which of them

empty_none : (xs : List (List ℕ)) → length xs ≡ 0 → xs ≡ []
empty_none [] h = refl
empty_none (x ∷ xs) h = absurd (omega arith)

module _ (lists addresses : List ℕ) {s w w' : List ℕ} {p q m to : ℕ} {r : Result ℕ Refusal} where
  by-fields : payloads 0x1f (own_fields (fields (drop p s))) ≡ [] → MergesFields s p w w' q m to r → Merges (read_at lists addresses s p) s lists p w w' q m to r
  unfolding payload_of map_option
  by-fields e M = record { is = rw e M.is; most = length (range_fields s p); few = M.few; own = inl refl; rest = M.rest }

  pub inline-listless : {b : Bool} → (b ≡ false → own_lists s p ≡ 0) → b ≡ false → MergesFields s p w w' q m to r → Merges (read_at lists addresses s p) s lists p w w' q m to r
  inline-listless f e M = by-fields (empty_none (payloads 0x1f (own_fields (fields (drop p s)))) (f e)) M

  pub inline-missing : NextOwn s p 0x1f None → MergesFields s p w w' q m to r → Merges (read_at lists addresses s p) s lists p w w' q m to r
  inline-missing N M = by-fields (sym N.is) M

module _ {s : List ℕ} {p : ℕ} {f : FieldSpan} (N : NextOwn s p 0x1f (Some f)) where
  fields-are : payloads 0x1f (own_fields (fields (drop p s))) ≡ take f.len (drop f.start s) ∷ payloads 0x1f (own_fields (fields (drop f.next s)))
  fields-are = sym N.is

  pub list-there : 1 ≤ own_lists s p
  list-there = omega (arith, ap length fields-are)

  module _ (h : Placed s p) where
    long : f.len ≡ 25
    long = let x = own-field s p 0x1f f N h in placed-list s x.place (step_at s x.place) 0x1f f.start f.len f.next x.here refl x.is refl

    pub list-within : f.start + 25 ≤ length s
    list-within = omega (arith, long, own-within s p 0x1f f N)

    read_is : range_list_of (take f.len (drop f.start s)) ≡ record { offset = le_at 8 s f.start; base = le_at 8 s (f.start + 8); addresses = le_at 8 s (f.start + 16); size = le_at 1 s (f.start + 24) }
    unfolding range_list_of
    read_is = λ i. record {
      offset = number-first s f.start f.len 8 (le_at 8 s f.start) (omega (arith, long)) refl i;
      base = number_at s f.start f.len 8 8 (le_at 8 s (f.start + 8)) (omega (arith, long)) refl i;
      addresses = number_at s f.start f.len 8 16 (le_at 8 s (f.start + 16)) (omega (arith, long)) refl i;
      size = number_at s f.start f.len 1 24 (le_at 1 s (f.start + 24)) (omega (arith, long)) refl i;
    }

    shape : payload_shaped (own-field s p 0x1f f N h).here.context 0x1f (take f.len (drop f.start s)) ≡ true
    unfolding shaped
    shape =
        let x = own-field s p 0x1f f N h in
        and_right (may_follow x.here.context.previous 0x1f) (payload_shaped x.here.context 0x1f (take f.len (drop f.start s)))
        (placed-shaped s x.place (step_at s x.place) 0x1f f.start f.len f.next x.here refl x.is)

    pub list-word : (le_at 1 s (f.start + 24) ≡ 4) ⊎ (le_at 1 s (f.start + 24) ≡ 8)
    unfolding payload_shaped list_shaped
    list-word =
        let c = (own-field s p 0x1f f N h).here.context in
        let n = le_at 1 (take f.len (drop f.start s)) 24 in
        let size_is : n ≡ le_at 1 s (f.start + 24) = number_at s f.start f.len 1 24 (le_at 1 s (f.start + 24)) (omega (arith, long)) refl in
        let word = and_right (eqb (length (take f.len (drop f.start s))) 25 && eqb c.version 5) (eqb n 4 || eqb n 8) shape in
        elim (or_either (eqb n 4) (eqb n 8) word) [
          | inl x ↦ inl (sym size_is ∙ eqb-true n 4 x)
          | inr x ↦ inr (sym size_is ∙ eqb-true n 8 x)
        ]

    pub inline-list : (lists addresses : List ℕ) {w w' : List ℕ} {q m to : ℕ} {r : Result ℕ Refusal} {l : ListField} → FieldIs s f.start l
        → MergesList (list_at lists addresses l.addresses (width_of l.size) l.offset l.base) lists w w' q m to r
        → Merges (read_at lists addresses s p) s lists p w w' q m to r
    unfolding payload_of map_option list_ranges
    inline-list lists addresses {w} {w'} {q} {m} {to} {r} F M = record {
      is = rw (fields-are, read_is) (subst (λ (x : ListRanges). MergedBy (listed x) w w' q m to r) (list_same lists addresses F) M.is);
      most = length lists / 3;
      few = M.few;
      own = inr (refl, list-there);
      rest = M.rest;
    }
