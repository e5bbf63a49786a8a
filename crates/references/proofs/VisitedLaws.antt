-- A target among those that a search has followed: whether a record is it, and the turns of the loop over them.
use mathlib.Core.Path.{◌≡◌, refl, sym, ap, ◌∙◌}
use mathlib.Core.Bool.{Bool, true, false, cond, ◌&&◌, ◌||◌}
use Rattle.std.specs.List.{list_any, range_with_len}
use mathlib.Core.List.{List, ◌∷◌}
use Prim.Native.Nat.{ℕ, zero, suc, ◌+◌, ◌-◌, ◌*◌, ◌<◌}
use native.Mathlib.Omega.{arith}
use lib.Dec.{eqb}
use borrow.Author.Tests.{ne_eqb}
use Rattle.tlv.specs.declared.model.DebugSource.{DebugSource}
use Rattle.tlv.specs.Sources.{source_of_byte}
use Rattle.tlv.specs.Lists.{exists}
use Rattle.tlv.specs.Bytes.{le_at}
use Rattle.buffers.specs.Table.{chunk}
use Rattle.buffers.proofs.ChunkLaws.{le_at-chunk, le_at-front}
use Rattle.references.specs.Search.{DieKey, main_source, supplementary_source, same_source, same_key}
use Rattle.references.specs.Keys.{key_of, keys_at, key_in}

-- ---- a record

-- its two numbers
pub key_is : (w : List ℕ) (p b o : ℕ) → le_at 1 w p ≡ b → le_at 8 w (p + 1) ≡ o → key_of (chunk w p 9) ≡ record { source = cond (eqb b 0) main_source supplementary_source; offset = o }
unfolding key_of
key_is w p b o eb eo = λ i. record {
  source = cond (eqb ((le_at-front 1 w p 9 (omega arith) ∙ eb) i) 0) main_source supplementary_source;
  offset = (le_at-chunk 8 w p 9 1 (omega arith) ∙ eo) i;
}

-- as they are read
read-source : (c : Bool) (o : ℕ) → key_in (cond c DebugSource.Main DebugSource.Supplementary) o ≡ record { source = cond c main_source supplementary_source; offset = o }
read-source true o = refl
read-source false o = refl

pub key-read : (w : List ℕ) (p : ℕ) {b o : ℕ} {source : DebugSource} → b ≡ le_at 1 w p → source ≡ source_of_byte b → o ≡ le_at 8 w (p + 1) → key_in source o ≡ key_of (chunk w p 9)
key-read w p {b} {o} eb is eo = rw (is, key_is w p b o (sym eb) (sym eo)) (read-source (eqb b 0) o)

and_no : (b : Bool) → false ≡ (b && false)
and_no true = refl
and_no false = refl

pub offset-in : (source : DebugSource) (o : ℕ) → (key_in source o).offset ≡ o
offset-in DebugSource.Main o = refl
offset-in DebugSource.Supplementary o = refl

-- another offset is another key
pub offsets-differ : (a b : DieKey) → (a.offset ≡ b.offset → ⊥) → false ≡ same_key a b
offsets-differ a b h = rw (ne_eqb a.offset b.offset h) (and_no (same_source a.source b.source))

-- ---- whether a key is among those at base

pub keys_step : (w : List ℕ) (base i : ℕ) → 0 < i → keys_at w base i ≡ key_of (chunk w (base + (i - 1) * 13) 9) ∷ keys_at w base (i - 1)
unfolding keys_at
keys_step w base zero h = absurd (omega arith)
keys_step w base (suc j) h = let z : suc j - 1 ≡ j = omega arith in rw z

or_else : (a b : Bool) → (a || b) ≡ cond a true b
or_else true b = refl
or_else false b = refl

-- a look at each by its number, from the last on
module _ (w : List ℕ) (base : ℕ) (k : DieKey) where
  abbrev is : ℕ → Bool
  is i = same_key k (key_of (chunk w (base + i * 13) 9))

  scanned-from : (a n : ℕ) → list_any (λ i. is (a + n - 1 - i)) (range_with_len a n) ≡ exists (same_key k) (keys_at w base n)
  unfolding keys_at exists
  scanned-from a zero = refl
  scanned-from a (suc n) =
      let here : a + suc n - 1 - a ≡ n = omega arith in
      let z : a + suc n ≡ a + 1 + n = omega arith in
      ap (λ (m : ℕ). is m || list_any (λ i. is (a + suc n - 1 - i)) (range_with_len (a + 1) n)) here
      ∙ ap (λ (m : ℕ). is n || list_any (λ i. is (m - 1 - i)) (range_with_len (a + 1) n)) z
      ∙ ap (λ (b : Bool). is n || b) (scanned-from (a + 1) n)
      ∙ or_else (is n) (exists (same_key k) (keys_at w base n))

  pub scanned_is : (n : ℕ) → list_any (λ i. is (n - 1 - i)) (range_with_len 0 n) ≡ exists (same_key k) (keys_at w base n)
  scanned_is n = let z : 0 + n ≡ n = omega arith in ap (λ (m : ℕ). list_any (λ i. is (m - 1 - i)) (range_with_len 0 n)) (sym z) ∙ scanned-from 0 n
