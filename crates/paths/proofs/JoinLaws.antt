-- Paths joined in a work slice.
use mathlib.Core.Path.{◌≡◌, refl, sym, ap, ◌∙◌}
use mathlib.Core.Bool.{Bool, cond, ◌||◌, or-true}
use mathlib.Core.Logic.{inl}
use mathlib.Core.List.{List, [], ◌∷◌, ◌++◌}
use Prim.Native.Nat.{ℕ, suc, ◌+◌, ◌-◌, ◌≤◌, ◌<◌}
use native.Mathlib.Nat.{add-zero}
use native.Mathlib.Omega.{arith}
use borrow.Author.Tests.{eq-eqb, ne_eqb}
use lib.Dec.{eqb}
use lib.ListN.{length, get_or, drop, set, length-set, length-append, drop_of_length-le}
use Rattle.tlv.proofs.TestLaws.{by_test}
use Rattle.buffers.specs.Buffer.{overlay}
use Rattle.buffers.specs.Table.{chunk, Kept}
use Rattle.buffers.proofs.ChunkLaws.{chunk-length, chunk-byte, chunk-none, chunk-add, chunk-over}
use Rattle.buffers.proofs.TableLaws.{kept-over, kept_refl, kept-wide, kept_trans}
use Rattle.line_program.specs.Standard.{slash}
use Rattle.paths.specs.Paths.{starts_with, ends_with, append_path}
use Rattle.paths.specs.Join.{Laid}
use Rattle.paths.proofs.PathCodeLaws.{drop_byte, starts_first}
use Rattle.paths.proofs.Joining.{append_none, append-first}

-- ---- the copy's loop

pub record Copying (path w₀ w : List ℕ) (to i : ℕ) : Type 0 where
  pub goes : overlay (to + i) (drop i path) w ≡ overlay to path w₀
  pub size : length w ≡ length w₀

pub copy_start : (path w : List ℕ) (to : ℕ) → Copying path w w to 0
copy_start path w to = record { goes = ap (λ (x : ℕ). overlay x path w) (add-zero to); size = refl }

pub copy_step : (path w₀ w : List ℕ) (to i : ℕ) → Copying path w₀ w to i → i < length path → Copying path w₀ (set w (to + i) (get_or path i 0)) to (i + 1)
copy_step path w₀ w to i C h =
    let e : to + (i + 1) ≡ to + i + 1 = omega arith in
    record {
      goes =
          ap (λ (x : ℕ). overlay x (drop (i + 1) path) (set w (to + i) (get_or path i 0))) e
          ∙ ap (λ (l : List ℕ). overlay (to + i) l w) (sym (drop_byte path i (get_or path i 0) h refl))
          ∙ C.goes;
      size = length-set w (to + i) (get_or path i 0) ∙ C.size;
    }

pub copy_done : {path w₀ w : List ℕ} {to i : ℕ} → Copying path w₀ w to i → length path ≤ i → w ≡ overlay to path w₀
copy_done {path} {w₀} {w} {to} {i} C h = sym (ap (λ (l : List ℕ). overlay (to + i) l w) (drop_of_length-le path {i = i} h)) ∙ C.goes

-- ---- append_path

-- the end of a path is its last byte
pub ends_at : (p : List ℕ) → 0 < length p → ends_with slash p ≡ eqb (get_or p (length p - 1) 0) slash
unfolding ends_with
ends_at [] h = absurd (omega arith)
ends_at (x ∷ []) h = refl
ends_at (x ∷ y ∷ p) h =
    let e : suc (suc (length p) - 1) ≡ suc (suc (length p)) - 1 = omega arith in
    ends_at (y ∷ p) (omega arith) ∙ ap (λ (k : ℕ). eqb (get_or (x ∷ y ∷ p) k 0) slash) e

pub append_both : (p c : List ℕ) → 0 < length p → 0 < length c → append_path p c ≡ cond (ends_with slash p || starts_with slash c) (p ++ c) (p ++ (slash ∷ c))
unfolding append_path
append_both [] c h g = absurd (omega arith)
append_both (a ∷ p) [] h g = absurd (omega arith)
append_both (a ∷ p) (b ∷ c) h g = refl

-- what is put below a path makes it no shorter
append_longer : (p c : List ℕ) → length p ≤ length (append_path p c)
unfolding append_path
append_longer p [] = omega arith
append_longer [] (b ∷ c) = omega arith
append_longer (a ∷ p) (b ∷ c) =
    by_test (λ l. suc (length p) ≤ length l) (ends_with slash (a ∷ p) || starts_with slash (b ∷ c)) {x = (a ∷ p) ++ (b ∷ c)} {y = (a ∷ p) ++ (slash ∷ b ∷ c)}
    (λ e. omega (arith, length-append (a ∷ p) (b ∷ c))) (λ e. omega (arith, length-append (a ∷ p) (slash ∷ b ∷ c)))

-- ---- a component below the path of n bytes at `at`

-- bytes laid after the path
laid-after : (w w' x : List ℕ) (at n r : ℕ) → w' ≡ overlay (at + n) x w → at + n + length x ≤ length w → r ≡ n + length x → Laid w w' at r (chunk w at n ++ x)
laid-after w w' x at n r e h z =
    let K : Kept w (overlay (at + n) x w) (at + n) (length x) = kept-over (at + n) x w (length x) refl in
    let l : r ≡ length (chunk w at n ++ x) = omega (arith, length-append (chunk w at n) x, chunk-length w at n (omega arith)) in
    record {
      path =
          (λ i. chunk (e i) at (z i)) ∙ chunk-add (overlay (at + n) x w) at n (length x)
          ∙ (λ i. K.same at n (inl (omega arith)) i ++ chunk-over (at + n) x w (length x) refl (omega arith) i);
      size = l;
      rest = rw e (kept-wide at r K (omega arith) (omega arith));
    }

pub laid_as : {w w' : List ℕ} {at r : ℕ} {l m : List ℕ} → m ≡ l → Laid w w' at r l → Laid w w' at r m
laid_as e L = record { path = L.path ∙ sym e; size = L.size ∙ ap length (sym e); rest = L.rest }

module _ (w : List ℕ) (at n : ℕ) (c : List ℕ) (room : at + n + 1 + length c ≤ length w) where
  path-length : length (chunk w at n) ≡ n
  path-length = chunk-length w at n (omega arith)

  pub append_empty : length c ≡ 0 → Laid w w at n (append_path (chunk w at n) c)
  append_empty h = record {
    path = sym (empty c h);
    size = sym path-length ∙ ap length (sym (empty c h));
    rest = kept_refl w at n;
  }
    where
      empty : (l : List ℕ) → length l ≡ 0 → append_path (chunk w at n) l ≡ chunk w at n
      empty [] z = append_none (chunk w at n)
      empty (x ∷ l) z = absurd (omega arith)

  module _ (w' : List ℕ) where
    pub append-start : n ≡ 0 → w' ≡ overlay at c w → Laid w w' at (length c) (append_path (chunk w at n) c)
    append-start z e =
        let q : at ≡ at + n = omega arith in
        let none : chunk w at n ≡ [] = ap (chunk w at) z ∙ chunk-none w at in
        laid_as (ap (λ (l : List ℕ). append_path l c) none ∙ append-first c ∙ ap (λ (l : List ℕ). l ++ c) (sym none))
        (laid-after w w' c at n (length c) (e ∙ ap (λ (x : ℕ). overlay x c w) q) (omega arith) (omega arith))

    module _ (z : n ≡ 0 → ⊥) (y : length c ≡ 0 → ⊥) where
      both : {b : Bool} → (ends_with slash (chunk w at n) || starts_with slash c) ≡ b
          → append_path (chunk w at n) c ≡ cond b (chunk w at n ++ c) (chunk w at n ++ (slash ∷ c))
      both e = append_both (chunk w at n) c (omega (arith, path-length)) (omega arith)
          ∙ ap (λ (b : Bool). cond b (chunk w at n ++ c) (chunk w at n ++ (slash ∷ c))) e

      ends : ends_with slash (chunk w at n) ≡ eqb (get_or w (at + n - 1) 0) slash
      ends =
          let q : at + (n - 1) ≡ at + n - 1 = omega arith in
          ends_at (chunk w at n) (omega (arith, path-length))
          ∙ ap (λ (x : ℕ). eqb (get_or (chunk w at n) (x - 1) 0) slash) path-length
          ∙ ap (λ (x : ℕ). eqb x slash) (chunk-byte w at n (n - 1) (omega arith) ∙ ap (λ (x : ℕ). get_or w x 0) q)

      pub append_ends : get_or w (at + n - 1) 0 ≡ slash → w' ≡ overlay (at + n) c w → Laid w w' at (n + length c) (append_path (chunk w at n) c)
      append_ends k e =
          laid_as (both (ap (λ (b : Bool). b || starts_with slash c) (ends ∙ eq-eqb (get_or w (at + n - 1) 0) slash k)))
          (laid-after w w' c at n (n + length c) e (omega arith) refl)

      pub append_starts : get_or c 0 0 ≡ slash → w' ≡ overlay (at + n) c w → Laid w w' at (n + length c) (append_path (chunk w at n) c)
      append_starts k e =
          laid_as (both (ap (λ (b : Bool). ends_with slash (chunk w at n) || b) (sym (starts_first c y) ∙ eq-eqb (get_or c 0 0) slash k)
          ∙ or-true (ends_with slash (chunk w at n))))
          (laid-after w w' c at n (n + length c) e (omega arith) refl)

      pub append-slash : (get_or w (at + n - 1) 0 ≡ slash → ⊥) → (get_or c 0 0 ≡ slash → ⊥) → w' ≡ overlay (at + n + 1) c (set w (at + n) slash)
          → Laid w w' at (n + 1 + length c) (append_path (chunk w at n) c)
      append-slash k j e =
          laid_as (both (λ i. (ends ∙ ne_eqb (get_or w (at + n - 1) 0) slash k) i || (sym (starts_first c y) ∙ ne_eqb (get_or c 0 0) slash j) i))
          (laid-after w w' (slash ∷ c) at n (n + 1 + length c) e (omega arith) (omega arith))

-- ---- two components

pub append_two : (w w₁ w₂ : List ℕ) (at n m r : ℕ) (d o : List ℕ) → Laid w w₁ at m (append_path (chunk w at n) d)
    → Laid w₁ w₂ at r (append_path (chunk w₁ at m) o)
    → Laid w w₂ at r (append_path (append_path (chunk w at n) d) o)
append_two w w₁ w₂ at n m r d o L M =
    let e : append_path (chunk w₁ at m) o ≡ append_path (append_path (chunk w at n) d) o = ap (λ (l : List ℕ). append_path l o) L.path in
    let g : m ≤ r = omega (arith, L.size, M.size ∙ ap length e, append_longer (append_path (chunk w at n) d) o) in
    record {
      path = M.path ∙ e;
      size = M.size ∙ ap length e;
      rest = kept_trans (kept-wide at r L.rest (omega arith) (omega arith)) M.rest;
    }

-- the first component, where nothing stands yet
pub join-room : (w : List ℕ) {w₁ : List ℕ} {at n : ℕ} (c : List ℕ) → Laid w w₁ at n (append_path (chunk w at 0) c) → n ≡ length c
join-room w {w₁} {at} {n} c L = L.size ∙ ap length (ap (λ (l : List ℕ). append_path l c) (chunk-none w at) ∙ append-first c)
