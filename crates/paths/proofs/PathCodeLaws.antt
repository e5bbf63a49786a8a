-- The functions that take a path apart and test it: one law for each way through a function.
use mathlib.Core.Path.{◌≡◌, refl, sym, ap, ◌∙◌}
use mathlib.Core.Bool.{Bool, true, false, cond, ◌&&◌, ◌||◌, not}
use mathlib.Core.List.{List, [], ◌∷◌, ◌++◌, reverse}
use Prim.Native.Nat.{ℕ, zero, suc, ◌+◌, ◌-◌, ◌≤◌, ◌<◌}
use native.Mathlib.Omega.{arith}
use native.Mathlib.Numerals.{add-one}
use borrow.Author.Tests.{lt-ltb, le-leb, lt-leb}
use lib.Dec.{eqb}
use lib.ListN.{length, get_or, take, drop, length-take, length-drop}
use lib.Seq.{take-suc, take-length, take_all, drop-cons}
use Rattle.std.specs.List.{list_any, AllWithin, HoldsAt}
use Rattle.std.proofs.lemmas.List.{get_or-reverse, length-reverse}
use Rattle.tlv.specs.Lists.{exists}
use Rattle.line_program.specs.Standard.{slash}
use Rattle.paths.specs.Paths.{is_separator, starts_with, is_drive, is_share, is_letter, starts_with_letter, has_drive_letter}
use Rattle.paths.specs.Paths.{is_windows, splits_at, after_last, base_start, basename_of, root_length, directory_name}

-- what is left from a place on is its byte and what is left after it
pub drop_byte : (s : List ℕ) (p b : ℕ) → p < length s → b ≡ get_or s p 0 → drop p s ≡ b ∷ drop (p + 1) s
drop_byte s p b h e = drop-cons s p 0 h ∙ (λ i. sym e i ∷ drop (sym (add-one p) i) s)

-- ---- the last byte that splits

module _ (splits : ℕ → Bool) where
  last-here : (l : List ℕ) (b : ℕ) → splits b ≡ true → after_last splits (l ++ (b ∷ [])) ≡ length l + 1
  unfolding after_last
  last-here [] b e = rw e
  last-here (x ∷ l) b e = rw (last-here l b e, lt-ltb 0 (length l + 1) (omega arith)) (omega arith)

  last-other : (l : List ℕ) (b : ℕ) → splits b ≡ false → after_last splits (l ++ (b ∷ [])) ≡ after_last splits l
  unfolding after_last
  last-other [] b e = rw e
  last-other (x ∷ l) b e = rw (last-other l b e)

take_last : (s : List ℕ) (i : ℕ) → 0 < i → i ≤ length s → take i s ≡ take (i - 1) s ++ (get_or s (i - 1) 0 ∷ [])
take_last s i h g =
    let z : i ≡ suc (i - 1) = omega arith in
    ap (λ (x : ℕ). take x s) z ∙ take-suc s (i - 1) 0 (omega arith)

module _ (s : List ℕ) where
  pub base-start : (w : Bool) → w ≡ is_windows s → base_start s ≡ after_last (splits_at w) (take (length s) s)
  unfolding base_start
  base-start w e = λ i. after_last (splits_at (sym e i)) (sym (take-length s) i)

  module _ (splits : ℕ → Bool) (i v : ℕ) (e : v ≡ after_last splits (take i s)) where
    module _ (h : 0 < i) (g : i ≤ length s) (r : Bool) (q : r ≡ splits (get_or s (i - 1) 0)) where
      pub base-found : r ≡ true → i ≡ v
      base-found k =
          let l : length (take (i - 1) s) + 1 ≡ i = simp length-take (omega arith) in
          sym (e ∙ ap (after_last splits) (take_last s i h g) ∙ last-here splits (take (i - 1) s) (get_or s (i - 1) 0) (sym q ∙ k) ∙ l)

      pub base-pass : r ≡ false → v ≡ after_last splits (take (i - 1) s)
      base-pass k = e ∙ ap (after_last splits) (take_last s i h g) ∙ last-other splits (take (i - 1) s) (get_or s (i - 1) 0) (sym q ∙ k)

-- none of the last k bytes splits: what counts stands before them
module _ (s : List ℕ) (splits : ℕ → Bool) where
  back : (k : ℕ) → k ≤ length s → AllWithin (λ b. splits b ≡ false) (reverse s) 0 k → after_last splits s ≡ after_last splits (take (length s - k) s)
  back zero h others =
      let z : length s - 0 ≡ length s = omega arith in
      ap (after_last splits) (sym (take-length s)) ∙ ap (λ (i : ℕ). after_last splits (take i s)) (sym z)
  back (suc k) h others =
      let next : length s - k - 1 ≡ length s - suc k = omega arith in
      let byte : get_or (reverse s) k 0 ≡ get_or s (length s - k - 1) 0 = get_or-reverse s k 0 (omega arith) ∙ ap (λ (i : ℕ). get_or s i 0) (omega arith) in
      base-pass s splits (length s - k) (after_last splits s) (back k (omega arith) (λ i d a b. others i d a (omega arith))) (omega arith) (omega arith)
      (splits (get_or (reverse s) k 0)) (ap splits byte) (others k 0 (omega arith) (omega arith))
      ∙ ap (λ (i : ℕ). after_last splits (take i s)) next

module _ (s : List ℕ) (w : Bool) (e : w ≡ is_windows s) where
  here : base_start s ≡ after_last (splits_at w) s
  here = base-start s w e ∙ ap (after_last (splits_at w)) (take-length s)

  pub base-nowhere : AllWithin (λ b. splits_at w b ≡ false) (reverse s) 0 (length (reverse s)) → 0 ≡ base_start s
  unfolding after_last
  base-nowhere others =
      let all : length (reverse s) ≡ length s = length-reverse s in
      let z : length s - length s ≡ 0 = omega arith in
      sym (here ∙ back s (splits_at w) (length s) (omega arith) (λ i d a b. others i d a (omega arith)) ∙ ap (λ (i : ℕ). after_last (splits_at w) (take i s)) z)

  pub base-behind : (k : ℕ) → k < length (reverse s) → HoldsAt (λ b. splits_at w b ≡ true) (reverse s) k
      → AllWithin (λ b. splits_at w b ≡ false) (reverse s) 0 k → length s - k ≡ base_start s
  base-behind k h found others =
      let all : length (reverse s) ≡ length s = length-reverse s in
      let byte : get_or (reverse s) k 0 ≡ get_or s (length s - k - 1) 0 = get_or-reverse s k 0 (omega arith) ∙ ap (λ (i : ℕ). get_or s i 0) (omega arith) in
      base-found s (splits_at w) (length s - k) (after_last (splits_at w) s) (back s (splits_at w) k (omega arith) others) (omega arith) (omega arith)
      (splits_at w (get_or (reverse s) k 0)) (ap (splits_at w) byte) (found 0)
      ∙ sym here

-- what the code returns is the directory, and the basename

pub directory-short : (s : List ℕ) (n m : ℕ) → n ≡ base_start s → m ≡ root_length s → n ≤ m → take n s ≡ directory_name s
unfolding directory_name
directory-short s n m e f h = rw (← e, ← f, le-leb n m h)

pub directory-long : (s : List ℕ) (n m : ℕ) → n ≡ base_start s → m ≡ root_length s → m < n → take (n - 1) s ≡ directory_name s
unfolding directory_name
directory-long s n m e f h = rw (← e, ← f, lt-leb n m h)

pub basename-is : (s : List ℕ) (n : ℕ) → n ≡ base_start s → take (length s - n) (drop n s) ≡ basename_of s
unfolding basename_of
basename-is s n e = rw (← e) (take_all (length s - n) (drop n s) (omega (arith, length-drop n s)))

-- ---- separators

-- the library's word
pub exists-any : (p : ℕ → Bool) (s : List ℕ) → exists p s ≡ list_any p s
unfolding exists
exists-any p [] = refl
exists-any p (x ∷ s) = go (p x) (exists-any p s)
  where
    go : (b : Bool) → exists p s ≡ list_any p s → cond b true (exists p s) ≡ (b || list_any p s)
    go true e = refl
    go false e = e

-- ---- paths that Windows wrote

-- a drive stands in three bytes at the least
pub drive-some : (s : List ℕ) → true ≡ is_drive s → 0 < length s
unfolding is_drive
drive-some [] e = absurd cc
drive-some (x ∷ s) e = omega arith

pub drive-letter : (s : List ℕ) (r : Bool) → true ≡ is_drive s → r ≡ is_letter (get_or s 0 0) → r ≡ has_drive_letter s
unfolding starts_with_letter
drive-letter [] r e q = absurd (omega (arith, drive-some [] e))
drive-letter (x ∷ s) r e q = rw (← e) q

-- ---- absolute paths

pub starts_first : (s : List ℕ) → (length s ≡ 0 → ⊥) → eqb (get_or s 0 0) slash ≡ starts_with slash s
unfolding starts_with
starts_first [] h = absurd (h refl)
starts_first (x ∷ s) h = refl

share-at : (s : List ℕ) → 3 ≤ length s
    → is_share s ≡ (is_separator (get_or s 0 0) && eqb (get_or s 0 0) (get_or s 1 0) && not (is_separator (get_or s 2 0)) && exists is_separator (drop 3 s))
unfolding is_share
share-at [] h = absurd (omega arith)
share-at (a ∷ []) h = absurd (omega arith)
share-at (a ∷ b ∷ []) h = absurd (omega arith)
share-at (a ∷ b ∷ c ∷ s) h = refl

pub share-all : (s : List ℕ) (r : Bool) → 3 ≤ length s → is_separator (get_or s 0 0) ≡ true → eqb (get_or s 0 0) (get_or s 1 0) ≡ true
    → not (is_separator (get_or s 2 0)) ≡ true → r ≡ list_any is_separator (take (length s - 3) (drop 3 s)) → r ≡ is_share s
share-all s r h a b t e =
    let z : take (length s - 3) (drop 3 s) ≡ drop 3 s = take_all (length s - 3) (drop 3 s) (omega (arith, length-drop 3 s)) in
    e ∙ ap (list_any is_separator) z ∙ sym (exists-any is_separator (drop 3 s)) ∙ sym (rw (a, b, t) at (share-at s h))
