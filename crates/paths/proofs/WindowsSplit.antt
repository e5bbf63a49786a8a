-- A path that Windows wrote is split at its last separator, which stays with the root and is dropped behind it; no other two parts are so.
use mathlib.Core.Path.{◌≡◌, refl, sym, ap, ◌∙◌}
use mathlib.Core.Bool.{Bool, true, false, cond, ◌||◌, true≢false, or-true}
use mathlib.Core.Logic.{inl, inr}
use mathlib.Core.List.{List, [], ◌∷◌, ◌++◌, append_assoc}
use Prim.Native.Nat.{ℕ, zero, suc, ◌-◌, ◌≤◌, ◌<◌}
use native.Mathlib.Omega.{arith}
use borrow.Author.Tests.{le-leb, lt-leb, leb-true, leb-false}
use lib.Dec.{leb, eqb}
use lib.ListN.{length, get_or, take, drop, length-take, length-append}
use lib.Seq.{get_or-append_seam, take_at, drop_at}
use Rattle.tlv.specs.Lists.{exists}
use Rattle.tlv.proofs.TestLaws.{and_left, and_right}
use Rattle.line_program.specs.Standard.{slash}
use Rattle.paths.specs.Paths.{is_separator, is_drive, starts_with_letter, has_drive_letter, starts_doubled, is_windows, splits_at, after_last}
use Rattle.paths.specs.Paths.{base_start, basename_of, root_length, directory_name}
use Rattle.paths.specs.PathConforms.{WindowsParts, WindowsSplits}
use Rattle.paths.proofs.LastSlash.{last-split, last-plain, last-least, last-most}

-- ---- the root

-- its last byte is a separator
root_ends : (p : List ℕ) → is_windows p ≡ true → (0 < root_length p) × (root_length p ≤ length p) × (is_separator (get_or p (root_length p - 1) 0) ≡ true)
unfolding is_windows root_length is_drive starts_with_letter starts_doubled is_separator
root_ends [] w = absurd (true≢false (sym w))
root_ends (a ∷ []) w = absurd (true≢false (sym w))
root_ends (a ∷ b ∷ []) w = rw w (omega arith, omega arith, rw (and_right (eqb a 0x5c) (eqb b 0x5c) w) (or-true (eqb b slash)))
root_ends (a ∷ b ∷ c ∷ s) w = go (has_drive_letter (a ∷ b ∷ c ∷ s)) refl (starts_doubled (a ∷ b ∷ c ∷ s)) refl w
  where
    p : List ℕ
    p = a ∷ b ∷ c ∷ s

    go : (d : Bool) → has_drive_letter p ≡ d → (e : Bool) → starts_doubled p ≡ e → (d || e) ≡ true
        → (0 < cond d 3 (cond e 2 1)) × (cond d 3 (cond e 2 1) ≤ length p) × (is_separator (get_or p (cond d 3 (cond e 2 1) - 1) 0) ≡ true)
    go true q e r h = (omega arith, omega arith, and_right (eqb b 0x3a) (is_separator c) (and_left (is_drive p) (starts_with_letter p) q))
    go false q true r h = (omega arith, omega arith, rw (and_right (eqb a 0x5c) (eqb b 0x5c) r) (or-true (eqb b slash)))
    go false q false r h = absurd (true≢false (sym h))

take_drop : (n : ℕ) (l : List ℕ) → take n l ++ drop n l ≡ l
take_drop zero l = refl
take_drop (suc n) [] = refl
take_drop (suc n) (x ∷ l) = ap (λ (r : List ℕ). x ∷ r) (take_drop n l)

module _ (p : List ℕ) (w : is_windows p ≡ true) where
  base-separator : base_start p ≡ after_last is_separator p
  unfolding base_start
  base-separator = ap (λ (t : Bool). after_last (splits_at t) p) w

  -- the root stands before the basename
  base-root : root_length p ≤ base_start p
  base-root =
      let (z, l, s) = root_ends p w in
      omega (arith, last-least is_separator p (root_length p - 1) (omega arith) s, base-separator)

  -- ---- the parts

  -- the separator that ends the root stays
  directory-root : base_start p ≤ root_length p → directory_name p ≡ take (base_start p) p
  unfolding directory_name
  directory-root h = rw (le-leb (base_start p) (root_length p) h)

  -- another is dropped
  directory-behind : (n : ℕ) → base_start p ≡ suc n → root_length p ≤ n → directory_name p ≡ take n p
  unfolding directory_name
  directory-behind n e h =
      let z : suc n - 1 ≡ n = omega arith in
      rw (e, lt-leb (suc n) (root_length p) (omega arith), z)

  basename-is : (n : ℕ) → base_start p ≡ n → basename_of p ≡ drop n p
  unfolding basename_of
  basename-is n e = ap (λ (k : ℕ). drop k p) e

  plain : exists is_separator (basename_of p) ≡ false
  plain = ap (exists is_separator) (basename-is (after_last is_separator p) base-separator) ∙ last-plain is_separator p

  parts : WindowsParts p (directory_name p) (basename_of p)
  parts = go (leb (base_start p) (root_length p)) refl (base_start p) refl
    where
      go : (t : Bool) → leb (base_start p) (root_length p) ≡ t → (n : ℕ) → base_start p ≡ n → WindowsParts p (directory_name p) (basename_of p)
      go true e n q =
          let d = directory-root (leb-true (base_start p) (root_length p) e) in
          let b = basename-is (base_start p) refl in
          let (z, l, s) = root_ends p w in
          inl (
            sym (take_drop (base_start p) p) ∙ (λ i. sym d i ++ sym b i),
            omega (arith, ap length d, length-take (base_start p) p, base-root, leb-true (base_start p) (root_length p) e),
          )
      go false e zero q = absurd (omega (arith, leb-false (base_start p) (root_length p) e))
      go false e (suc n) q =
          let r = leb-false (base_start p) (root_length p) e in
          let (c, h, g) = last-split is_separator p n (sym base-separator ∙ q) in
          let d = directory-behind n q (omega arith) in
          let b = basename-is (suc n) q in
          let m = ap length g in
          inr (
            c,
            h,
            g ∙ (λ i. sym d i ++ (c ∷ sym b i)),
            omega (arith, ap length d, length-take n p, m, length-append (take n p) (c ∷ drop (suc n) p)),
          )

  -- ---- no other two parts

  only : (d b : List ℕ) → exists is_separator b ≡ false → WindowsParts p d b → (d ≡ directory_name p) × (b ≡ basename_of p)
  only d b e (inl (q, l)) =
      let u : after_last is_separator p ≤ length d = rw q (last-most is_separator d b e) in
      let m : base_start p ≡ length d = omega (arith, base-root, base-separator) in (
        sym (directory-root (omega arith) ∙ (λ i. take (m i) (q i)) ∙ take_at d b (length d) refl),
        sym (basename-is (length d) m ∙ ap (drop (length d)) q ∙ drop_at d b (length d) refl),
      )
  only d b e (inr (c, h, q, l)) =
      let a : p ≡ (d ++ (c ∷ [])) ++ b = q ∙ sym (append_assoc d (c ∷ []) b) in
      let k : length (d ++ (c ∷ [])) ≡ suc (length d) = omega (arith, length-append d (c ∷ [])) in
      let u : after_last is_separator p ≤ length (d ++ (c ∷ [])) = rw a (last-most is_separator (d ++ (c ∷ [])) b e) in
      let s : is_separator (get_or p (length d) 0) ≡ true = rw q (ap is_separator (get_or-append_seam d c b 0) ∙ h) in
      let v = last-least is_separator p (length d) (omega (arith, ap length q, length-append d (c ∷ b))) s in
      let m : base_start p ≡ suc (length d) = omega (arith, base-separator) in (
        sym (directory-behind (length d) m l ∙ ap (take (length d)) q ∙ take_at d (c ∷ b) (length d) refl),
        sym (basename-is (suc (length d)) m ∙ ap (drop (suc (length d))) a ∙ drop_at (d ++ (c ∷ [])) b (suc (length d)) k),
      )

pub windows-splits : WindowsSplits
windows-splits p w = record { plain = plain p w; parts = parts p w; only = only p w }
