-- Neighbours that repeat dropped in place, of any table: what the loop keeps, over the reader, the size and the test.
use mathlib.Core.Path.{◌≡◌, refl, sym, ap, ◌∙◌}
use mathlib.Core.Logic.{inr}
use mathlib.Core.Bool.{Bool, true, false, cond}
use mathlib.Core.List.{List, [], ◌∷◌, ◌++◌, map, append_assoc, append-nil}
use Prim.Native.Nat.{ℕ, zero, suc, ◌+◌, ◌*◌, ◌≤◌, ◌<◌}
use native.Mathlib.Omega.{arith}
use native.Mathlib.Nat.{mul-le-mul_right}
use lib.ListN.{length, drop}
use Rattle.buffers.specs.Table.{chunk, tab, records, Kept, CopiedBytes}
use Rattle.buffers.proofs.TableLaws.{inside, kept_refl, kept-wide, kept_trans}
use Rattle.buffers.proofs.RecordLaws.{records-nil, records-suc, records-rest_none, records-rest_cons, records-copy_push}
use Rattle.lines.specs.Lines.{same_line, same_row, drop_after, drop_neighbours}
use Rattle.lines.specs.Rows.{compact_line_rows}
use Rattle.rows.specs.Sizes.{entry_size, line_size}
use Rattle.rows.specs.Stored.{entry_of, entries_of, line_of, lines_of}
use Rattle.rows.specs.Sorts.{Deduped, Compacted}
use Rattle.rows.specs.Repeats.{Dropped}

-- ---- the list

module _ {A : Type 0} (equal : A → A → Bool) where
  after_none : (x : A) → [] ≡ drop_after equal x []
  unfolding drop_after
  after_none x = refl

  after_same : (x y : A) (l : List A) → equal x y ≡ true → drop_after equal x l ≡ drop_after equal x (y ∷ l)
  unfolding drop_after
  after_same x y l e = rw e

  after-other : (x y : A) (l : List A) → equal x y ≡ false → y ∷ drop_after equal y l ≡ drop_after equal x (y ∷ l)
  unfolding drop_after
  after-other x y l e = rw e

  neighbours-none : [] ≡ drop_neighbours equal []
  unfolding drop_neighbours
  neighbours-none = refl

  neighbours-cons : (x : A) (l : List A) → x ∷ drop_after equal x l ≡ drop_neighbours equal (x ∷ l)
  unfolding drop_neighbours
  neighbours-cons x l = refl

-- ---- the loop

-- of the first i records, those up to record `last` are left; nothing from record i on was written
pub record Dropping {A : Type 0} (f : List ℕ → A) (s : ℕ) (equal : A → A → Bool) (w₀ w : List ℕ) (base n last i : ℕ) : Type 0 where
  pub order : last < i
  pub within : i ≤ n
  pub rows : records f s w base (last + 1) ++ drop_after equal (f (chunk w (base + last * s) s)) (drop i (records f s w₀ base n)) ≡ drop_neighbours equal (records f s w₀ base n)
  pub rest : Kept w₀ w base (i * s)
  pub size : length w ≡ length w₀

module _ {A : Type 0} (f : List ℕ → A) (s : ℕ) (equal : A → A → Bool) where
  pub dropping-start : (w : List ℕ) (base n : ℕ) → 0 < n → Dropping f s equal w w base n 0 1
  dropping-start w base n h =
      let x : A = f (chunk w (base + 0 * s) s) in
      record {
        order = omega arith;
        within = omega arith;
        rows =
            ap (λ (l : List A). l ++ drop_after equal x (drop 1 (records f s w base n))) (records-suc f s w base 0 ∙ ap (λ (l : List A). l ++ (x ∷ [])) (records-nil f s w base))
            ∙ neighbours-cons equal x (drop 1 (records f s w base n))
            ∙ ap (drop_neighbours equal) (sym (records-rest_cons f s w base n 0 h));
        rest = kept_refl w base (1 * s);
        size = refl;
      }

  pub dropped-nothing : (w : List ℕ) (base n : ℕ) → n ≡ 0 → Dropped f s equal w w base n 0
  dropped-nothing w base n e = record {
    within = omega arith;
    rows = records-nil f s w base ∙ neighbours-none equal ∙ ap (drop_neighbours equal) (sym (ap (records f s w base) e ∙ records-nil f s w base));
    rest = kept_refl w base (n * s);
  }

module _ {A : Type 0} {f : List ℕ → A} {s : ℕ} {equal : A → A → Bool} {w₀ w : List ℕ} {base n last i : ℕ} (d : Dropping f s equal w₀ w base n last i) where
  module _ (less : i < n) where
    record-i : f (chunk w (base + i * s) s) ≡ f (chunk w₀ (base + i * s) s)
    record-i = ap f (d.rest.same (base + i * s) s (inr (omega arith)))

    next-i : f (chunk w (base + i * s) s) ∷ drop (i + 1) (records f s w₀ base n) ≡ drop i (records f s w₀ base n)
    next-i = ap (λ (x : A). x ∷ drop (i + 1) (records f s w₀ base n)) record-i ∙ sym (records-rest_cons f s w₀ base n i less)

    pub dropping_same : {r : Bool} → r ≡ equal (f (chunk w (base + last * s) s)) (f (chunk w (base + i * s) s)) → r ≡ true → Dropping f s equal w₀ w base n last (i + 1)
    dropping_same q t = record {
      order = omega (arith, d.order);
      within = omega arith;
      rows =
          ap (λ (l : List A). records f s w base (last + 1) ++ l)
          (after_same equal (f (chunk w (base + last * s) s)) (f (chunk w (base + i * s) s)) (drop (i + 1) (records f s w₀ base n)) (sym q ∙ t)
          ∙ ap (drop_after equal (f (chunk w (base + last * s) s))) next-i)
          ∙ d.rows;
      rest = kept-wide base ((i + 1) * s) d.rest (omega arith) (omega arith);
      size = d.size;
    }

    pub dropping-other : {w' : List ℕ} {r : Bool} → r ≡ equal (f (chunk w (base + last * s) s)) (f (chunk w (base + i * s) s)) → r ≡ false
        → CopiedBytes w w' (base + i * s) (base + (last + 1) * s) s → length w' ≡ length w → Dropping f s equal w₀ w' base n (last + 1) (i + 1)
    dropping-other {w'} q t C len =
        let R : List A = drop (i + 1) (records f s w₀ base n) in
        let x : A = f (chunk w (base + i * s) s) in
        record {
          order = omega (arith, d.order);
          within = omega arith;
          rows =
              (λ k. records-copy_push f s base (last + 1) C k ++ drop_after equal (f (C.same k)) R)
              ∙ append_assoc (records f s w base (last + 1)) (x ∷ []) (drop_after equal x R)
              ∙ ap (λ (l : List A). records f s w base (last + 1) ++ l)
              (after-other equal (f (chunk w (base + last * s) s)) x R (sym q ∙ t) ∙ ap (drop_after equal (f (chunk w (base + last * s) s))) next-i)
              ∙ d.rows;
          rest =
              kept_trans (kept-wide base ((i + 1) * s) d.rest (omega arith) (omega arith))
              (kept-wide base ((i + 1) * s) C.rest (omega arith) (omega (arith, inside (last + 1) (i + 1) s (omega (arith, d.order)))));
          size = len ∙ d.size;
        }

  pub dropping-done : n ≤ i → Dropped f s equal w₀ w base n (last + 1)
  dropping-done h = record {
    within = omega (arith, d.order, d.within);
    rows =
        sym (append-nil (records f s w base (last + 1)))
        ∙ ap (λ (l : List A). records f s w base (last + 1) ++ l)
        (after_none equal (f (chunk w (base + last * s) s)) ∙ ap (drop_after equal (f (chunk w (base + last * s) s))) (sym (records-rest_none f s w₀ base n i h)))
        ∙ d.rows;
    rest = kept-wide base (n * s) d.rest (omega arith) (omega (arith, mul-le-mul_right s d.within));
  }

-- ---- of a unit's rows, and of a function's

-- records that a test reads by f, as it finds their bytes
module _ {A : Type 0} (f : List ℕ → A) (equal : A → A → Bool) where
  abbrev pub by : List ℕ → List ℕ → Bool
  by = λ a b. equal (f a) (f b)

  map-after : (x : List ℕ) (l : List (List ℕ)) → map f (drop_after by x l) ≡ drop_after equal (f x) (map f l)
  unfolding drop_after
  map-after x [] = refl
  map-after x (y ∷ ys) = either (equal (f x) (f y)) (map-after x ys) (map-after y ys)
    where
      either : (t : Bool) → map f (drop_after by x ys) ≡ drop_after equal (f x) (map f ys) → map f (drop_after by y ys) ≡ drop_after equal (f y) (map f ys)
          → map f (cond t (drop_after by x ys) (y ∷ drop_after by y ys)) ≡ cond t (drop_after equal (f x) (map f ys)) (f y ∷ drop_after equal (f y) (map f ys))
      either true h g = h
      either false h g = ap (λ (l : List A). f y ∷ l) g

  map-neighbours : (l : List (List ℕ)) → map f (drop_neighbours by l) ≡ drop_neighbours equal (map f l)
  unfolding drop_neighbours
  map-neighbours [] = refl
  map-neighbours (x ∷ xs) = ap (λ (l : List A). f x ∷ l) (map-after x xs)

  map-tab : (n : ℕ) (g : ℕ → List ℕ) → map f (tab n g) ≡ tab n (λ i. f (g i))
  unfolding tab
  map-tab zero g = refl
  map-tab (suc n) g = ap (λ (l : List A). f (g zero) ∷ l) (map-tab n (λ i. g (suc i)))

  read : (s : ℕ) (w : List ℕ) (base n : ℕ) → map f (records (λ b. b) s w base n) ≡ records f s w base n
  unfolding records
  read s w base n = map-tab n (λ i. chunk w (base + i * s) s)

  pub dropped-by : {s : ℕ} {w₀ w : List ℕ} {base n r : ℕ} → Dropped (λ b. b) s by w₀ w base n r → Dropped f s equal w₀ w base n r
  dropped-by {s} {w₀} {w} {base} {n} {r} d = record {
    within = d.within;
    rows = sym (read s w base r) ∙ ap (map f) d.rows ∙ map-neighbours (records (λ b. b) s w₀ base n) ∙ ap (drop_neighbours equal) (read s w₀ base n);
    rest = d.rest;
  }

pub deduped : {w₀ w : List ℕ} {base n r : ℕ} → Dropped (λ b. b) line_size (by line_of same_row) w₀ w base n r → Deduped w₀ w base n r
unfolding lines_of
deduped d = let e = dropped-by line_of same_row d in record { within = e.within; rows = e.rows; rest = e.rest }

pub compacted : {w₀ w : List ℕ} {base n r : ℕ} → Dropped (λ b. b) entry_size (by entry_of same_line) w₀ w base n r → Compacted w₀ w base n r
unfolding entries_of compact_line_rows
compacted d = let e = dropped-by entry_of same_line d in record { within = e.within; rows = e.rows; rest = e.rest }
