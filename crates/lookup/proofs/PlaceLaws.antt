-- A field's bytes stand at its place.
use mathlib.Core.Path.{◌≡◌, refl, sym, ap, subst, ◌∙◌}
use mathlib.Core.Bool.{Bool, true, false, cond}
use mathlib.Core.List.{List, [], ◌∷◌}
use Prim.Native.Nat.{ℕ, zero, suc, ◌+◌, ◌/◌, ◌%◌, ◌≤◌, ◌<◌}
use native.Mathlib.Omega.{arith}
use lib.Dec.{leb}
use lib.ListN.{length, take, drop}
use lib.Seq.{drop-drop, length-take-le}
use borrow.Author.Tests.{leb-true}
use Rattle.tlv.specs.Lists.{All}
use Rattle.tlv.specs.Bytes.{Bytes, le, bytes_of}
use Rattle.tlv.specs.Fields.{cut, more, fields_from, encode}
use Rattle.tlv.proofs.ListLaws.{all_drop}
use Rattle.lookup.specs.Tray.{fields_at}
use Rattle.lookup.specs.Means.{StandsIn, Reading}
use Rattle.lookup.proofs.ReadLaws.{reads-functions, reads-nodes}

-- three bytes, and as many as they say
pub encoded : (t a b : ℕ) (rest : List ℕ) → a < 256 → b < 256 → le (a ∷ b ∷ []) ≤ length rest
    → take (3 + length (take (le (a ∷ b ∷ [])) rest)) (t ∷ a ∷ b ∷ rest) ≡ encode t (take (le (a ∷ b ∷ [])) rest)
unfolding encode bytes_of
encoded t a b rest x y h =
    let n : ℕ = le (a ∷ b ∷ []) in
    let l : length (take n rest) ≡ n = length-take-le n rest h in
    let low : n % 256 ≡ a = omega arith in
    let part : n / 256 ≡ b = omega arith in
    let high : b % 256 ≡ b = omega arith in
    let three : 3 + n ≡ suc (suc (suc n)) = omega arith in
    rw (l, low, part, high, three)

module _ (tray : List ℕ) (bytes : Bytes tray) where
  head_small : (p t : ℕ) (l : List ℕ) → drop p tray ≡ t ∷ l → t < 256
  head_small p t l e = (subst (λ (x : List ℕ). All (λ b. b < 256) x) e (all_drop (λ b. b < 256) p tray bytes)).0

  next-drop : (p t : ℕ) (l : List ℕ) → drop p tray ≡ t ∷ l → drop (p + 1) tray ≡ l
  next-drop p t l e = sym (drop-drop 1 p tray) ∙ ap (drop 1) e

  pub stand : (k : ℕ) (l : List ℕ) (p : ℕ) → drop p tray ≡ l → All (StandsIn tray) (fields_at (p + k) (fields_from k l))
  unfolding fields_from fields_at
  stand zero [] p e = tt
  stand zero (t ∷ []) p e = tt
  stand zero (t ∷ a ∷ []) p e = tt
  stand zero (t ∷ a ∷ b ∷ rest) p e =
      let e1 = next-drop p t _ e in
      let e2 = next-drop (p + 1) a _ e1 in
      let e3 = next-drop (p + 1 + 1) b _ e2 in
      go (leb (le (a ∷ b ∷ [])) (length rest)) refl (head_small (p + 1) a _ e1) (head_small (p + 1 + 1) b _ e2)
      (stand (le (a ∷ b ∷ [])) rest (p + 1 + 1 + 1) e3)
    where
      n : ℕ
      n = le (a ∷ b ∷ [])

      go : (c : Bool) → leb (le (a ∷ b ∷ [])) (length rest) ≡ c → a < 256 → b < 256
          → All (StandsIn tray) (fields_at (p + 1 + 1 + 1 + le (a ∷ b ∷ [])) (fields_from (le (a ∷ b ∷ [])) rest))
          → All (StandsIn tray)
          (fields_at (p + 0) (cond c (more (record { tag = t; payload = take (le (a ∷ b ∷ [])) rest }) (fields_from (le (a ∷ b ∷ [])) rest)) cut))
      go true h x y ih =
          let fits : le (a ∷ b ∷ []) ≤ length rest = leb-true _ _ h in
          let l = length-take-le (le (a ∷ b ∷ [])) rest fits in
          let zero_more : p + 0 ≡ p = omega arith in
          let same : p + 1 + 1 + 1 + le (a ∷ b ∷ []) ≡ p + 0 + 3 + length (take (le (a ∷ b ∷ [])) rest) = omega arith in
          (rw (zero_more, e) (encoded t a b rest x y fits), subst (λ (q : ℕ). All (StandsIn tray) (fields_at q (fields_from (le (a ∷ b ∷ [])) rest))) same ih)
      go false h x y ih = tt
  stand (suc k) [] p e = tt
  stand (suc k) (x ∷ l) p e =
      let same : p + 1 + k ≡ p + suc k = omega arith in
      subst (λ (q : ℕ). All (StandsIn tray) (fields_at q (fields_from k l))) same (stand k l (p + 1) (next-drop p x l e))

pub reading : Reading
unfolding fields_from
reading = record { places = λ tray b. stand tray b 0 tray 0 refl; functions = reads-functions; nodes = reads-nodes }
