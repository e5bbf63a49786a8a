-- What the grammar promises of each field by its tag, whatever stands before it.
use mathlib.Core.Path.{◌≡◌}
use mathlib.Core.Bool.{true, ◌&&◌, ◌||◌}
use mathlib.Core.Logic.{inl, inr}
use mathlib.Core.List.{List, [], ◌∷◌}
use Prim.Native.Nat.{ℕ, ◌+◌, ◌-◌, ◌^◌, ◌≤◌, ◌<◌}
use native.Mathlib.Omega.{arith}
use lib.Dec.{ltb, eqb}
use lib.ListN.{length, drop, length-drop}
use borrow.Author.Tests.{leb-true, ltb-true, eqb-true, eq-eqb}
use Rattle.tlv.specs.Lists.{All}
use Rattle.tlv.specs.Bytes.{Bytes, le_at}
use Rattle.tlv.specs.Limits.{field_limit, string_limit, depth_limit}
use Rattle.tlv.specs.Fields.{Field, head_of, payloads, payload_of}
use Rattle.tlv.specs.declared.grammar.Context.{Context}
use Rattle.tlv.specs.Grammar.{may_follow, payload_shaped, payload_limited, shaped, limited, next, unit_shaped, row_shaped, entry_shaped, list_shaped, row_line_at, row_column_at}
use Rattle.tlv.specs.Model.{range_of, directory_of, file_of, row_of, attribute_of, entry_range_of, failure_of, range_list_of}
use Rattle.tlv.specs.Accepted.{Small, String, Given, AttributeAccepted, FailureAccepted, ListAccepted, RowAccepted}
use Rattle.tlv.proofs.TestLaws.{by_test, and_left, and_right, or_either}
use Rattle.tlv.proofs.ListLaws.{all_drop}
use Rattle.tlv.proofs.ByteLaws.{le_at-bound}

-- ---- fields that pass, one after the other

-- the grammar passes a field after c
pub record Passed (c : Context) (f : Field) : Type 0 where
  pub bytes : Bytes f.payload
  pub shape : shaped c f ≡ true
  pub limit : limited c f ≡ true

-- the grammar passes each of the fields, from c on
abbrev pub AllPassed : Context → List Field → Type 0
AllPassed c [] = Unit {0}
AllPassed c (f ∷ fs) = Passed c f × AllPassed (next c f) fs

-- the grammar promises Q of the payload of a field of tag t
abbrev pub Promised : ℕ → (List ℕ → Type 0) → Type 0
Promised t Q = (c : Context) (p : List ℕ) → Bytes p → payload_shaped c t p ≡ true → payload_limited c t p ≡ true → Q p

module _ (c : Context) (f : Field) (t : ℕ) (is : f.tag ≡ t) (h : Passed c f) where
  pub shape_is : payload_shaped c t f.payload ≡ true
  unfolding shaped
  shape_is = rw is at (and_right (may_follow c.previous f.tag) (payload_shaped c f.tag f.payload) h.shape)

  pub limit_is : payload_limited c t f.payload ≡ true
  unfolding limited
  limit_is = rw is at (and_right (ltb c.count field_limit) (payload_limited c f.tag f.payload) h.limit)

-- the fields of a tag have what is promised of it
module _ (t : ℕ) (Q : List ℕ → Type 0) (promise : Promised t Q) where
  pub promised_all : (c : Context) (fs : List Field) → AllPassed c fs → All Q (payloads t fs)
  unfolding payloads
  promised_all c [] h = tt
  promised_all c (f ∷ fs) h =
      let later = promised_all (next c f) fs h.1 in
      by_test (All Q) (eqb f.tag t)
      (λ e. let is = eqb-true f.tag t e in (promise c f.payload h.0.bytes (shape_is c f t is h.0) (limit_is c f t is h.0), later)) (λ e. later)

  pub promised-first : (c : Context) (fs : List Field) → AllPassed c fs → Given Q (payload_of t fs)
  unfolding payload_of
  promised-first c fs h = go (payloads t fs) (promised_all c fs h)
    where
      go : (ps : List (List ℕ)) → All Q ps → Given Q (head_of ps)
      go [] k = tt
      go (p ∷ ps) k = k.0

-- ---- the promises

pub no-string : String []
no-string = (tt, omega arith)

-- what is left of a payload after its first k bytes is a string
rest-string : (k : ℕ) (p : List ℕ) → Bytes p → length p - k ≤ string_limit → String (drop k p)
rest-string k p b h = (all_drop (λ x. x < 256) k p b, rw length-drop h)

small-range : (p : List ℕ) → Bytes p → Small (range_of p)
unfolding range_of
small-range p b = (le_at-bound 8 p 0 b, le_at-bound 8 p 8 b)

pub directory-promise : Promised 0x11 String
unfolding payload_limited
directory-promise c p b s l = (b, leb-true _ _ l)

pub text-promise : Promised 0x12 (λ p. Small (range_of p))
text-promise c p b s l = small-range p b

pub directories-promise : Promised 0x14 (λ p. String (directory_of p).path)
unfolding payload_limited directory_of
directories-promise c p b s l = rest-string 1 p b (leb-true _ _ l)

pub file-promise : Promised 0x15 (λ p. String (file_of p).path)
unfolding payload_limited file_of
file-promise c p b s l = rest-string 9 p b (leb-true _ _ l)

pub file_zero-promise : Promised 0x1c (λ p. String (file_of p).path)
unfolding payload_limited file_of
file_zero-promise c p b s l = rest-string 9 p b (leb-true _ _ l)

pub row-promise : Promised 0x16 (λ p. RowAccepted (row_of p))
unfolding payload_shaped row_shaped row_of
row-promise c p b s l = record {
  address = le_at-bound 8 p 0 b;
  file = le_at-bound 8 p 8 b;
  line = le_at-bound 8 p row_line_at b;
  column = le_at-bound 2 p row_column_at b;
  kind = leb-true _ _ (search (and_left, and_right));
}

pub attribute-promise : Promised 0x18 (λ p. AttributeAccepted (attribute_of p))
unfolding payload_limited attribute_of
attribute-promise c p b s l = record {
  value = le_at-bound 8 p 3 b;
  text = λ three. rest-string 3 p b (leb-true _ _ (rw (eq-eqb _ _ three) at l));
}

pub range-promise : Promised 0x19 (λ p. Small (entry_range_of p).range)
unfolding entry_range_of
range-promise c p b s l = small-range p b

pub failure-promise : Promised 0x1a (λ p. FailureAccepted (failure_of p))
unfolding payload_limited failure_of
failure-promise c p b s l = record {
  bytes = all_drop (λ x. x < 256) 1 p b;
  short = rw length-drop (leb-true _ _ l);
}

pub list-promise : Promised 0x1f (λ p. ListAccepted (range_list_of p))
unfolding payload_shaped list_shaped range_list_of
list-promise c p b s l =
    let n = le_at 1 p 24 in
    elim (or_either (eqb n 4) (eqb n 8) (and_right (eqb (length p) 25 && eqb c.version 5) (eqb n 4 || eqb n 8) s)) [
      | inl e ↦ inl (eqb-true n 4 e)
      | inr e ↦ inr (eqb-true n 8 e)
    ]

-- a unit ends below 2 ^ 64
pub unit-promise : Promised 0x10 (λ p. le_at 8 p 0 + le_at 8 p 8 < 2 ^ 64)
unfolding payload_shaped unit_shaped
unit-promise c p b s l = ltb-true _ _ (search (and_left, and_right))

-- an entry after c: its offset is in its unit and at least what c asks for, its depth at most that and the limit
module _ (c : Context) (p : List ℕ) (s : payload_shaped c 0x17 p ≡ true) where
  pub entry-from : c.offset ≤ le_at 8 p 0
  unfolding payload_shaped entry_shaped
  entry-from = leb-true _ _ (search (and_left, and_right))

  pub entry-within : le_at 8 p 0 < c.length
  unfolding payload_shaped entry_shaped
  entry-within = ltb-true _ _ (search (and_left, and_right))

  pub entry-step : le_at 2 p 8 ≤ c.depth
  unfolding payload_shaped entry_shaped
  entry-step = leb-true _ _ (search (and_left, and_right))

pub entry-depth : (c : Context) (p : List ℕ) → payload_limited c 0x17 p ≡ true → le_at 2 p 8 ≤ depth_limit
unfolding payload_limited
entry-depth c p l = leb-true _ _ l
