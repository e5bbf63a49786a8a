-- Paths compared with the pieces that they may be joined from.
use mathlib.Core.Path.{◌≡◌, refl, sym, ap, ◌∙◌}
use mathlib.Core.Bool.{Bool, true, false, cond, ◌&&◌, ◌||◌, not, or-true}
use mathlib.Core.List.{List, [], ◌∷◌, ◌++◌, append_assoc, append-nil}
use Prim.Native.Nat.{ℕ, suc, ◌+◌, ◌-◌, ◌≤◌}
use native.Mathlib.Omega.{arith}
use borrow.Author.Tests.{eqb-true, eq-eqb, ne_eqb, not-true, not-false}
use lib.Dec.{eqb}
use lib.Pointwise.{pointwise}
use lib.ListN.{length, get_or, take, drop, replicate, length-append, length-replicate}
use Rattle.std.specs.Prelude.{◌==◌}
use Rattle.std.proofs.Math.Seq.{take-length}
use Rattle.tlv.specs.Lists.{same}
use Rattle.tlv.proofs.TestLaws.{by_test, same_true}
use Rattle.buffers.specs.Table.{chunk}
use Rattle.buffers.proofs.ChunkLaws.{chunk-length, chunk-cons, chunk-add}
use Rattle.line_program.specs.Standard.{slash}
use Rattle.paths.specs.Paths.{starts_with, ends_with, append_path}
use Rattle.paths.proofs.PathCodeLaws.{starts_first}
use Rattle.paths.proofs.Joining.{ends-append, append_none, append-first}
use Rattle.paths.proofs.JoinLaws.{ends_at, append_both}
use Rattle.files.specs.Pieces.{Separated}
use Rattle.files.specs.Joined.{component_at}
use Rattle.files.proofs.DirectoryLaws.{cut-span}

-- ---- same

and_assoc : (a b c : Bool) → (a && b && c) ≡ (a && (b && c))
and_assoc true b c = refl
and_assoc false b c = refl

-- lists in two parts each, the first ones as long as each other
pub same-append : (a b c d : List ℕ) → length a ≡ length c → same (a ++ b) (c ++ d) ≡ (same a c && same b d)
unfolding same
same-append [] b [] d e = refl
same-append [] b (y ∷ c) d e = absurd (omega arith)
same-append (x ∷ a) b [] d e = absurd (omega arith)
same-append (x ∷ a) b (y ∷ c) d e =
    ap (λ (t : Bool). eqb x y && t) (same-append a b c d (omega arith)) ∙ sym (and_assoc (eqb x y) (same a c) (same b d))

-- lists of different lengths differ
pub same_length : (a b : List ℕ) → (length a ≡ length b → ⊥) → same a b ≡ false
same_length a b n = go (same a b) refl
  where
    go : (t : Bool) → same a b ≡ t → t ≡ false
    go true e = absurd (n (ap length (same_true a b e)))
    go false e = refl

-- the library's equality of slices
pub same-pointwise : (a b : List ℕ) → pointwise eqb a b ≡ same a b
unfolding same
same-pointwise [] [] = refl
same-pointwise [] (y ∷ b) = refl
same-pointwise (x ∷ a) [] = refl
same-pointwise (x ∷ a) (y ∷ b) = ap (λ (t : Bool). eqb x y && t) (same-pointwise a b)

pub bytes-same : (w s : List ℕ) (at : ℕ) {r : Bool} → r ≡ pointwise eqb (take (at + length s - at) (drop at w)) s → r ≡ same (chunk w at (length s)) s
bytes-same w s at e = e ∙ same-pointwise (take (at + length s - at) (drop at w)) s ∙ ap (λ (l : List ℕ). same l s) (cut-span w at (length s))

-- ---- separator

-- no slash goes between
unseparated : (p c : List ℕ) → append_path p c ≡ p ++ c → Separated p c 0
unseparated p c e = record { joined = e ∙ ap (λ (l : List ℕ). l ++ c) (sym (append-nil p)); one = omega arith }

-- a list of which the library says whether it is empty
pub emptied : (l : List ℕ) → true ≡ (length l == 0) → length l ≡ 0
emptied l e = eqb-true (length l) 0 (sym e)

pub filled : (l : List ℕ) → false ≡ (length l == 0) → length l ≡ 0 → ⊥
filled [] e z = cc
filled (x ∷ l) e z = omega arith

pub separated_first : (p c : List ℕ) → length p ≡ 0 → Separated p c 0
separated_first [] c z = unseparated [] c (append-first c)
separated_first (a ∷ p) c z = absurd (omega arith)

pub separated_none : (p c : List ℕ) → length c ≡ 0 → Separated p c 0
separated_none p [] z = unseparated p [] (append_none p ∙ sym (append-nil p))
separated_none p (b ∷ c) z = absurd (omega arith)

module _ (p c : List ℕ) (z : length p ≡ 0 → ⊥) (y : length c ≡ 0 → ⊥) where
  both : {b : Bool} → (ends_with slash p || starts_with slash c) ≡ b → append_path p c ≡ cond b (p ++ c) (p ++ (slash ∷ c))
  both e = append_both p c (omega arith) (omega arith) ∙ ap (λ (b : Bool). cond b (p ++ c) (p ++ (slash ∷ c))) e

  ends : ends_with slash p ≡ eqb (get_or p (length p - 1) 0) slash
  ends = ends_at p (omega arith)

  pub separated_ends : get_or p (length p - 1) 0 ≡ slash → Separated p c 0
  separated_ends k = unseparated p c (both (ap (λ (b : Bool). b || starts_with slash c) (ends ∙ eq-eqb (get_or p (length p - 1) 0) slash k)))

  module _ (k : get_or p (length p - 1) 0 ≡ slash → ⊥) where
    pub separated_starts : get_or c 0 0 ≡ slash → Separated p c 0
    separated_starts j =
        unseparated p c (both (ap (λ (b : Bool). ends_with slash p || b) (sym (starts_first c y) ∙ eq-eqb (get_or c 0 0) slash j) ∙ or-true (ends_with slash p)))

    pub separated-slash : (get_or c 0 0 ≡ slash → ⊥) → Separated p c 1
    separated-slash j = record {
      joined =
          both (λ i. (ends ∙ ne_eqb (get_or p (length p - 1) 0) slash k) i || (sym (starts_first c y) ∙ ne_eqb (get_or c 0 0) slash j) i)
          ∙ sym (append_assoc p (slash ∷ []) c);
      one = omega arith;
    }

-- ---- separator_below

-- what stands before a path that is not empty goes through
append_onto : (x d o : List ℕ) → (length d ≡ 0 → ⊥) → append_path (x ++ d) o ≡ x ++ append_path d o
unfolding append_path
append_onto x [] o n = absurd (n refl)
append_onto x (b ∷ d) [] n = refl
append_onto [] (b ∷ d) (k ∷ o) n = refl
append_onto (a ∷ x) (b ∷ d) (k ∷ o) n = rw (ends-append (a ∷ x) b d) (go (ends_with slash (b ∷ d) || starts_with slash (k ∷ o)))
  where
    go : (t : Bool) → cond t (a ∷ x ++ (b ∷ d) ++ (k ∷ o)) (a ∷ x ++ (b ∷ d) ++ (slash ∷ k ∷ o)) ≡ a ∷ x ++ cond t ((b ∷ d) ++ (k ∷ o)) ((b ∷ d) ++ (slash ∷ k ∷ o))
    go true = ap (λ (l : List ℕ). a ∷ l) (append_assoc x (b ∷ d) (k ∷ o))
    go false = ap (λ (l : List ℕ). a ∷ l) (append_assoc x (b ∷ d) (slash ∷ k ∷ o))

-- a list has another at its end
record Ending (d l : List ℕ) : Type 0 where
  front : List ℕ
  is : l ≡ front ++ d

append_ending : (c d : List ℕ) → Ending d (append_path c d)
unfolding append_path
append_ending c [] = record { front = c; is = sym (append-nil c) }
append_ending [] (b ∷ d) = record { front = []; is = refl }
append_ending (a ∷ c) (b ∷ d) =
    by_test (Ending (b ∷ d)) (ends_with slash (a ∷ c) || starts_with slash (b ∷ d)) {x = (a ∷ c) ++ (b ∷ d)} {y = (a ∷ c) ++ (slash ∷ b ∷ d)}
    (λ e. record { front = a ∷ c; is = refl }) (λ e. record { front = (a ∷ c) ++ (slash ∷ []); is = sym (append_assoc (a ∷ c) (slash ∷ []) (b ∷ d)) })

pub below-empty : (c d o : List ℕ) {r : ℕ} → length d ≡ 0 → Separated c o r → Separated (append_path c d) o r
below-empty c [] o z S = rw (append_none c) S
below-empty c (b ∷ d) o z S = absurd (omega arith)

pub below-filled : (c d o : List ℕ) {r : ℕ} → (length d ≡ 0 → ⊥) → Separated d o r → Separated (append_path c d) o r
below-filled c d o {r} n S = rw E.is (record { joined = append_onto x d o n ∙ ap (λ (l : List ℕ). x ++ l) S.joined ∙ regroup; one = S.one })
  where
    E : Ending d (append_path c d)
    E = append_ending c d

    x : List ℕ
    x = E.front

    regroup : x ++ (d ++ replicate r slash ++ o) ≡ x ++ d ++ replicate r slash ++ o
    regroup = simp append_assoc

-- ---- component_at

pub component-plain : (w s : List ℕ) (at n : ℕ) {r : Bool} → n ≡ 0 → r ≡ same (chunk w at (length s)) s → r ≡ component_at w at n s
unfolding component_at
component-plain w s at n z e =
    let q : n + length s ≡ length s = omega arith in
    e ∙ sym (λ j. same (chunk w at (q j)) (replicate (z j) slash ++ s))

module _ (w s : List ℕ) (at n : ℕ) (one : n ≤ 1) (z : n ≡ 0 → ⊥) (room : at + n + length s ≤ length w) where
  component-slash : component_at w at n s ≡ (eqb (get_or w at 0) slash && same (chunk w (at + 1) (length s)) s)
  unfolding component_at same
  component-slash =
      let q : n ≡ 1 = omega arith in
      let p : suc at ≡ at + 1 = omega arith in
      let l : n + length s ≡ suc (length s) = omega arith in
      (λ j. same (chunk w at (l j)) (replicate (q j) slash ++ s))
      ∙ ap (λ (l : List ℕ). same l (slash ∷ s)) (chunk-cons w at (length s) (omega arith))
      ∙ ap (λ (k : ℕ). eqb (get_or w at 0) slash && same (chunk w k (length s)) s) p

  pub component_differs : (get_or w at 0 ≡ slash → ⊥) → eqb (get_or w at 0) slash ≡ component_at w at n s
  component_differs k =
      let no = ne_eqb (get_or w at 0) slash k in
      no ∙ sym (component-slash ∙ ap (λ (b : Bool). b && same (chunk w (at + 1) (length s)) s) no)

  pub component-after : {r : Bool} → get_or w at 0 ≡ slash → r ≡ same (chunk w (at + 1) (length s)) s → r ≡ component_at w at n s
  component-after k e = e ∙ sym (component-slash ∙ ap (λ (b : Bool). b && same (chunk w (at + 1) (length s)) s) (eq-eqb (get_or w at 0) slash k))

-- ---- is_joined

chunk-whole : (w : List ℕ) → chunk w 0 (length w) ≡ w
unfolding chunk
chunk-whole w = take-length w

module _ (w : List ℕ) (f g : ℕ) (c d o : List ℕ) (S : Separated c d f) (T : Separated (append_path c d) o g) where
  abbrev whole : List ℕ
  whole = append_path (append_path c d) o

  whole_is : whole ≡ c ++ ((replicate f slash ++ d) ++ (replicate g slash ++ o))
  whole_is =
      T.joined ∙ ap (λ (l : List ℕ). l ++ replicate g slash ++ o) S.joined
      ∙ simp append_assoc

  pub joined_length : (length w ≡ length c + f + length d + g + length o → ⊥) → false ≡ same w whole
  joined_length k =
      let l : length whole ≡ length c + f + length d + g + length o = ap length whole_is ∙ simp (length-append, length-replicate) (omega arith) in
      sym (same_length w whole (λ e. k (e ∙ l)))

  module _ (z : length w ≡ length c + f + length d + g + length o) where
    joined_is : same w whole ≡ (same (chunk w 0 (length c)) c && (component_at w (length c) f d && component_at w (length c + f + length d) g o))
    unfolding component_at
    joined_is =
        let x : List ℕ = replicate f slash ++ d in
        let y : List ℕ = replicate g slash ++ o in
        let k : ℕ = f + length d in
        let m : ℕ = g + length o in
        let q : length w ≡ length c + (k + m) = omega arith in
        let p : length c + k ≡ length c + f + length d = omega arith in
        let start : 0 + length c ≡ length c = omega arith in
        let e : length x ≡ k = simp (length-append, length-replicate) in
        ap (λ (l : List ℕ). same l whole) (sym (chunk-whole w))
        ∙ (λ i. same (chunk w 0 (q i)) (whole_is i))
        ∙ ap (λ (l : List ℕ). same l (c ++ (x ++ y))) (chunk-add w 0 (length c) (k + m))
        ∙ ap (λ (j : ℕ). same (chunk w 0 (length c) ++ chunk w j (k + m)) (c ++ (x ++ y))) start
        ∙ same-append (chunk w 0 (length c)) (chunk w (length c) (k + m)) c (x ++ y) (chunk-length w 0 (length c) (omega arith))
        ∙ ap (λ (l : List ℕ). same (chunk w 0 (length c)) c && same l (x ++ y)) (chunk-add w (length c) k m)
        ∙ ap (λ (b : Bool). same (chunk w 0 (length c)) c && b)
        (same-append (chunk w (length c) k) (chunk w (length c + k) m) x y (chunk-length w (length c) k (omega arith) ∙ sym e))
        ∙ ap (λ (z : ℕ). same (chunk w 0 (length c)) c && (component_at w (length c) f d && same (chunk w z m) y)) p

    module _ {a : Bool} (ea : a ≡ same (chunk w 0 (length c)) c) where
      pub joined-first : not a ≡ true → false ≡ same w whole
      joined-first k = sym (rw (← ea, not-true a k) at joined_is)

      module _ (k : not a ≡ false) {b : Bool} (eb : b ≡ component_at w (length c) f d) where
        pub joined-second : b ≡ false → b ≡ same w whole
        joined-second t = t ∙ sym (rw (← ea, not-false a k, ← eb, t) at joined_is)

        pub joined-third : {r : Bool} → b ≡ true → r ≡ component_at w (length c + f + length d) g o → r ≡ same w whole
        joined-third t e = e ∙ sym (rw (← ea, not-false a k, ← eb, t) at joined_is)
