-- The last byte that splits a path. A path that Windows did not write is its directory, a slash and its basename; its directory is empty where it has no slash,
-- and a slash below the root.
use mathlib.Core.Path.{◌≡◌, refl, sym, ap, ◌∙◌}
use mathlib.Core.Bool.{Bool, true, false, cond, ◌||◌, true≢false}
use mathlib.Core.List.{List, [], ◌∷◌, ◌++◌}
use Prim.Native.Nat.{ℕ, zero, suc, ◌+◌, ◌-◌, ◌≤◌, ◌<◌}
use native.Mathlib.Omega.{arith}
use borrow.Author.Tests.{lt-leb, lt-ltb, eqb-true}
use lib.Dec.{ltb, eqb}
use lib.ListN.{length, get_or, take, drop}
use Rattle.tlv.specs.Lists.{exists}
use Rattle.tlv.proofs.TestLaws.{or_neither}
use Rattle.line_program.specs.Standard.{slash, is_full}
use Rattle.paths.specs.Paths.{has_drive_letter, starts_doubled, is_windows, splits_at, after_last, base_start, basename_of, root_length, directory_name}

or-first : (a b : Bool) → (a || b) ≡ false → a ≡ false
or-first true b e = absurd (true≢false e)
or-first false b e = refl

-- ---- the last byte that splits

module _ (splits : ℕ → Bool) where
  last_empty : after_last splits [] ≡ 0
  unfolding after_last
  last_empty = refl

  -- before the byte after the last one that splits stands one that splits
  pub last-split : (p : List ℕ) (n : ℕ) → after_last splits p ≡ suc n → (c : ℕ) × (splits c ≡ true) × (p ≡ take n p ++ (c ∷ drop (suc n) p))
  unfolding after_last
  last-split [] n e = absurd (omega arith)
  last-split (b ∷ s) n e = go (λ m q. last-split s m q) (after_last splits s) refl
    where
      here : (t : Bool) → splits b ≡ t → cond t 1 0 ≡ suc n → (c : ℕ) × (splits c ≡ true) × (b ∷ s ≡ take n (b ∷ s) ++ (c ∷ drop (suc n) (b ∷ s)))
      here true q f =
          let z : n ≡ 0 = omega arith in
          (b, q, rw z refl)
      here false q f = absurd (omega arith)

      go : ((m : ℕ) → after_last splits s ≡ suc m → (c : ℕ) × (splits c ≡ true) × (s ≡ take m s ++ (c ∷ drop (suc m) s))) → (k : ℕ) → after_last splits s ≡ k
          → (c : ℕ) × (splits c ≡ true) × (b ∷ s ≡ take n (b ∷ s) ++ (c ∷ drop (suc n) (b ∷ s)))
      go ih zero q = here (splits b) refl (rw q at e)
      go ih (suc m) q =
          let f : suc m + 1 ≡ suc n = rw (q, lt-ltb 0 (suc m) (omega arith)) at e in
          let z : n ≡ suc m = omega arith in
          let (c, h, g) = ih m q in
          (c, h, rw z (ap (λ (l : List ℕ). b ∷ l) g))

  -- nothing splits a path whose last such byte is nowhere
  last_none : (p : List ℕ) → after_last splits p ≡ 0 → exists splits p ≡ false
  unfolding after_last exists
  last_none [] e = refl
  last_none (b ∷ s) e = go (λ q. last_none s q) (after_last splits s) refl (splits b) e
    where
      go : (after_last splits s ≡ 0 → exists splits s ≡ false) → (k : ℕ) → after_last splits s ≡ k → (t : Bool) → cond (ltb 0 k) (k + 1) (cond t 1 0) ≡ 0
          → cond t true (exists splits s) ≡ false
      go ih zero q true f = absurd (omega arith)
      go ih zero q false f = ih q
      go ih (suc k) q t f = let g : suc k + 1 ≡ 0 = rw (lt-ltb 0 (suc k) (omega arith)) at f in absurd (omega arith)

  -- nothing splits what stands behind the last such byte
  pub last-plain : (p : List ℕ) → exists splits (drop (after_last splits p) p) ≡ false
  unfolding after_last exists
  last-plain [] = refl
  last-plain (b ∷ s) = go (last-plain s) (after_last splits s) refl (splits b) refl
    where
      go : exists splits (drop (after_last splits s) s) ≡ false → (k : ℕ) → after_last splits s ≡ k → (t : Bool) → splits b ≡ t
          → exists splits (drop (cond (ltb 0 k) (k + 1) (cond t 1 0)) (b ∷ s)) ≡ false
      go ih zero q true f = last_none s q
      go ih zero q false f = rw f (last_none s q)
      go ih (suc k) q t f =
          let z : suc k + 1 ≡ suc (suc k) = omega arith in
          rw (lt-ltb 0 (suc k) (omega arith), z) (rw q at ih)

  -- a byte that splits stands before the last one's end
  pub last-least : (p : List ℕ) (i : ℕ) → i < length p → splits (get_or p i 0) ≡ true → i < after_last splits p
  unfolding after_last
  last-least [] i h e = absurd (omega arith)
  last-least (b ∷ s) zero h e = go (after_last splits s)
    where
      go : (k : ℕ) → 0 < cond (ltb 0 k) (k + 1) (cond (splits b) 1 0)
      go zero = rw e (omega arith)
      go (suc k) = rw (lt-ltb 0 (suc k) (omega arith)) (omega arith)
  last-least (b ∷ s) (suc i) h e =
      let g = last-least s i (omega arith) e in
      rw (lt-ltb 0 (after_last splits s) (omega arith)) (omega arith)

  -- and none stands behind it
  last-zero : (b : List ℕ) → exists splits b ≡ false → after_last splits b ≡ 0
  unfolding after_last exists
  last-zero [] e = refl
  last-zero (x ∷ b) e = go (last-zero b) (splits x) refl e
    where
      go : (exists splits b ≡ false → after_last splits b ≡ 0) → (t : Bool) → splits x ≡ t → cond t true (exists splits b) ≡ false
          → cond (ltb 0 (after_last splits b)) (after_last splits b + 1) (cond (splits x) 1 0) ≡ 0
      go ih true q f = absurd (true≢false f)
      go ih false q f = rw (ih f, q)

  pub last-most : (d b : List ℕ) → exists splits b ≡ false → after_last splits (d ++ b) ≤ length d
  unfolding after_last
  last-most [] b e = omega (arith, last-zero b e)
  last-most (x ∷ d) b e = go (last-most d b e) (ltb 0 (after_last splits (d ++ b))) (splits x)
    where
      go : after_last splits (d ++ b) ≤ length d → (t u : Bool) → cond t (after_last splits (d ++ b) + 1) (cond u 1 0) ≤ suc (length d)
      go h true u = omega arith
      go h false true = omega arith
      go h false false = omega arith

-- ---- a path that Windows did not write

module _ (p : List ℕ) (w : is_windows p ≡ false) where
  base-slash : base_start p ≡ after_last (λ b. eqb b slash) p
  unfolding base_start
  base-slash = ap (λ (t : Bool). after_last (splits_at t) p) w

  root-one : root_length p ≡ 1
  unfolding root_length is_windows
  root-one = rw (or-first (has_drive_letter p) (starts_doubled p) w, or_neither (has_drive_letter p) (starts_doubled p) w)

-- a path with no slash is not full
none-full : (p : List ℕ) → exists (λ b. eqb b slash) p ≡ false → is_full p ≡ false
unfolding exists
none-full [] e = refl
none-full (b ∷ s) e = go (eqb b slash) e
  where
    go : (t : Bool) → cond t true (exists (λ b. eqb b slash) s) ≡ false → t ≡ false
    go true f = absurd (true≢false f)
    go false f = refl

-- where the last slash is, and what the parts are
pub data Split (p : List ℕ) : Type 0 where
  nowhere : is_full p ≡ false → directory_name p ≡ [] → basename_of p ≡ p → Split p
  first : directory_name p ≡ slash ∷ [] → p ≡ slash ∷ basename_of p → Split p
  later : (a : ℕ) (l : List ℕ) → directory_name p ≡ a ∷ l → p ≡ (a ∷ l) ++ (slash ∷ basename_of p) → Split p

pub split : (p : List ℕ) → is_windows p ≡ false → Split p
unfolding basename_of directory_name
split p w = go p (root-one p w) (base-slash p w) (base_start p) refl
  where
    at-slash : (p : List ℕ) (n : ℕ) → after_last (λ b. eqb b slash) p ≡ suc n → p ≡ take n p ++ (slash ∷ drop (suc n) p)
    at-slash p n e = let (c, h, g) = last-split (λ b. eqb b slash) p n e in g ∙ ap (λ (x : ℕ). take n p ++ (x ∷ drop (suc n) p)) (eqb-true c slash h)

    go : (p : List ℕ) → root_length p ≡ 1 → base_start p ≡ after_last (λ b. eqb b slash) p → (n : ℕ) → base_start p ≡ n → Split p
    go p r b zero e = nowhere (none-full p (last_none (λ b. eqb b slash) p (sym b ∙ e))) (rw (e, r)) (rw e)
    go p r b (suc zero) e =
        let s = at-slash p 0 (sym b ∙ e) in
        let k : basename_of p ≡ drop 1 p = rw e in
        first ((rw (e, r)) ∙ ap (take 1) s) (s ∙ ap (λ (l : List ℕ). slash ∷ l) (sym k))
    go [] r b (suc (suc n)) e = absurd (omega (arith, b, last_empty (λ b. eqb b slash)))
    go (a ∷ l) r b (suc (suc n)) e =
        let z : suc (suc n) - 1 ≡ suc n = omega arith in
        later a (take n l) (rw (e, r, lt-leb (suc (suc n)) 1 (omega arith), z)) (rw e (at-slash (a ∷ l) (suc n) (sym b ∙ e)))
