-- The laws of a table whose records of s bytes are each read by f: every kind of record has them at its own f and s.
use mathlib.Core.Path.{◌≡◌, refl, sym, ap, ◌∙◌}
use mathlib.Core.Logic.{inl}
use mathlib.Core.List.{List, [], ◌∷◌, ◌++◌}
use Prim.Native.Nat.{ℕ, zero, suc, ◌+◌, ◌-◌, ◌*◌, ◌≤◌, ◌<◌}
use native.Mathlib.Nat.{add-zero, zero-add, suc-add, sub-zero, zero-sub, suc-sub-suc, not-suc-le-zero, le_of_suc-le-suc}
use native.Mathlib.Numerals.{add-one}
use native.Mathlib.Omega.{arith}
use lib.ListN.{length, take, drop, set, get_or, drop_of_length-le}
use lib.Seq.{drop-cons}
use Rattle.tlv.specs.Bytes.{le, le_at}
use Rattle.buffers.specs.Buffer.{overlay}
use Rattle.buffers.specs.Table.{chunk, tab, records, Apart, Kept, Clear, KeptBut, Wrote, CopiedBytes}
use Rattle.buffers.proofs.ChunkLaws.{chunk_part, chunk-over, le_at-is}
use Rattle.buffers.proofs.TableLaws.{inside, apart_of, clear-record, but_one}

-- ---- the list f 0, f 1, ..

module _ {A : Type 0} where
  pub tab-length : (n : ℕ) (f : ℕ → A) → length (tab n f) ≡ n
  unfolding tab
  tab-length zero f = refl
  tab-length (suc n) f = ap suc (tab-length n (λ i. f (suc i)))

  pub tab-at : (n : ℕ) (f : ℕ → A) (i : ℕ) (d : A) → i < n → get_or (tab n f) i d ≡ f i
  unfolding tab
  tab-at zero f i d h = absurd (not-suc-le-zero h)
  tab-at (suc n) f zero d h = refl
  tab-at (suc n) f (suc i) d h = tab-at n (λ j. f (suc j)) i d (le_of_suc-le-suc h)

  pub tab-ext : (n : ℕ) (f g : ℕ → A) → ((i : ℕ) → i < n → f i ≡ g i) → tab n f ≡ tab n g
  unfolding tab
  tab-ext zero f g e = refl
  tab-ext (suc n) f g e =
      λ i. e zero (omega arith) i ∷ tab-ext n (λ j. f (suc j)) (λ j. g (suc j)) (λ j h. e (suc j) (omega arith)) i

  pub tab-add : (n m : ℕ) (f : ℕ → A) → tab (n + m) f ≡ tab n f ++ tab m (λ i. f (n + i))
  unfolding tab
  tab-add zero m f = ap (λ (k : ℕ). tab k f) (zero-add m) ∙ tab-ext m f (λ i. f (zero + i)) (λ i h. ap f (sym (zero-add i)))
  tab-add (suc n) m f =
      ap (λ (k : ℕ). tab k f) (suc-add n m)
      ∙ ap (λ (r : List A). f zero ∷ r) (tab-add n m (λ i. f (suc i)) ∙ ap (λ (r : List A). tab n (λ i. f (suc i)) ++ r) (tab-ext m (λ i. f (suc (n + i))) (λ i. f (suc n + i)) (λ i h. ap f (sym (suc-add n i)))))

  -- f n stands last
  pub tab-suc : (n : ℕ) (f : ℕ → A) → tab (n + 1) f ≡ tab n f ++ (f n ∷ [])
  unfolding tab
  tab-suc n f = tab-add n 1 f ∙ ap (λ (k : ℕ). tab n f ++ (f k ∷ [])) (add-zero n)

  -- two functions that differ at i alone
  pub tab-set : (n : ℕ) (f g : ℕ → A) (i : ℕ) → i < n → ((j : ℕ) → j < n → ((j ≡ i) → ⊥) → g j ≡ f j) → tab n g ≡ set (tab n f) i (g i)
  unfolding tab
  tab-set zero f g i h e = absurd (not-suc-le-zero h)
  tab-set (suc n) f g zero h e =
      ap (λ (r : List A). g zero ∷ r) (tab-ext n (λ j. g (suc j)) (λ j. f (suc j)) (λ j l. e (suc j) (omega arith) (λ q. (omega arith))))
  tab-set (suc n) f g (suc i) h e =
      λ k. e zero (omega arith) (λ q. (omega arith)) k ∷ tab-set n (λ j. f (suc j)) (λ j. g (suc j)) i (le_of_suc-le-suc h) (λ j l ne. e (suc j) (omega arith) (λ q. ne (omega arith))) k

  pub tab-drop : (n : ℕ) (f : ℕ → A) (i : ℕ) → drop i (tab n f) ≡ tab (n - i) (λ j. f (i + j))
  unfolding tab
  tab-drop n f zero = tab-ext n f (λ j. f (zero + j)) (λ j h. ap f (sym (zero-add j))) ∙ ap (λ (k : ℕ). tab k (λ j. f (zero + j))) (sym (sub-zero n))
  tab-drop zero f (suc i) = sym (ap (λ (k : ℕ). tab k (λ j. f (suc i + j))) (zero-sub (suc i)))
  tab-drop (suc n) f (suc i) =
      tab-drop n (λ j. f (suc j)) i
      ∙ tab-ext (n - i) (λ j. f (suc (i + j))) (λ j. f (suc i + j)) (λ j h. ap f (sym (suc-add i j)))
      ∙ ap (λ (k : ℕ). tab k (λ j. f (suc i + j))) (sym (suc-sub-suc n i))

  pub tab-take : (n : ℕ) (f : ℕ → A) (i : ℕ) → i ≤ n → take i (tab n f) ≡ tab i f
  unfolding tab
  tab-take n f zero h = refl
  tab-take zero f (suc i) h = absurd (not-suc-le-zero h)
  tab-take (suc n) f (suc i) h = ap (λ (r : List A). f zero ∷ r) (tab-take n (λ j. f (suc j)) i (le_of_suc-le-suc h))

-- ---- records

module _ {A : Type 0} (f : List ℕ → A) (s : ℕ) where
  pub records-length : (w : List ℕ) (b n : ℕ) → length (records f s w b n) ≡ n
  unfolding records
  records-length w b n = tab-length n (λ i. f (chunk w (b + i * s) s))

  pub records-nil : (w : List ℕ) (b : ℕ) → records f s w b 0 ≡ []
  unfolding records tab
  records-nil w b = refl

  -- reading record i
  pub records-at : (w : List ℕ) (b n i : ℕ) (d : A) → i < n → get_or (records f s w b n) i d ≡ f (chunk w (b + i * s) s)
  unfolding records
  records-at w b n i d h = tab-at n (λ i. f (chunk w (b + i * s) s)) i d h

  -- one record more, and m more
  pub records-suc : (w : List ℕ) (b n : ℕ) → records f s w b (n + 1) ≡ records f s w b n ++ (f (chunk w (b + n * s) s) ∷ [])
  unfolding records
  records-suc w b n = tab-suc n (λ i. f (chunk w (b + i * s) s))

  pub records-add : (w : List ℕ) (b i m : ℕ) → records f s w b (i + m) ≡ records f s w b i ++ records f s w (b + i * s) m
  unfolding records
  records-add w b i m =
      tab-add i m (λ j. f (chunk w (b + j * s) s))
      ∙ ap (λ (l : List A). tab i (λ j. f (chunk w (b + j * s) s)) ++ l)
      (tab-ext m (λ j. f (chunk w (b + (i + j) * s) s)) (λ j. f (chunk w (b + i * s + j * s) s)) (λ j l. ap (λ (p : ℕ). f (chunk w p s)) (omega arith)))

  -- the m records from record i on
  pub records-part : (w : List ℕ) (b n i m : ℕ) → i + m ≤ n → records f s w (b + i * s) m ≡ take m (drop i (records f s w b n))
  unfolding records
  records-part w b n i m h =
      tab-ext m (λ j. f (chunk w (b + i * s + j * s) s)) (λ j. f (chunk w (b + (i + j) * s) s)) (λ j l. ap (λ (p : ℕ). f (chunk w p s)) (omega arith))
      ∙ sym (tab-take (n - i) (λ j. f (chunk w (b + (i + j) * s) s)) m (omega arith))
      ∙ ap (take m) (sym (tab-drop n (λ j. f (chunk w (b + j * s) s)) i))

  -- the records from record x on
  pub records-rest_none : (w : List ℕ) (b n x : ℕ) → n ≤ x → drop x (records f s w b n) ≡ []
  records-rest_none w b n x h = drop_of_length-le (records f s w b n) {i = x} (omega (arith, records-length w b n))

  pub records-rest_cons : (w : List ℕ) (b n x : ℕ) → x < n → drop x (records f s w b n) ≡ f (chunk w (b + x * s) s) ∷ drop (x + 1) (records f s w b n)
  records-rest_cons w b n x h =
      drop-cons (records f s w b n) x (f []) (omega (arith, records-length w b n))
      ∙ (λ i. records-at w b n x (f []) h i ∷ drop (sym (add-one x) i) (records f s w b n))

  -- the frame where several stretches may have changed
  pub records-but : {w w' : List ℕ} {rs : List (ℕ × ℕ)} (b n : ℕ) → KeptBut w w' rs → Clear b (n * s) rs → records f s w' b n ≡ records f s w b n
  unfolding records
  records-but {w} {w'} {rs} b n K a =
      tab-ext n (λ i. f (chunk w' (b + i * s) s)) (λ i. f (chunk w (b + i * s) s)) (λ i h. ap f (K.same (b + i * s) s (clear-record s b n i rs a h)))

  -- the frame where one may have
  pub records-kept : {w w' : List ℕ} {p m : ℕ} (b n : ℕ) → Kept w w' p m → Apart b (n * s) p m → records f s w' b n ≡ records f s w b n
  records-kept b n K a = records-but b n (but_one K) (a, tt)

  -- what was written at record n, by a write that touches nothing else, is one record more
  pub records-push : {w w' : List ℕ} (b n : ℕ) (a : A) → Kept w w' (b + n * s) s → f (chunk w' (b + n * s) s) ≡ a → records f s w' b (n + 1) ≡ records f s w b n ++ (a ∷ [])
  records-push {w} {w'} b n a K e = records-suc w' b n ∙ (λ i. records-kept b n K (inl (omega arith)) i ++ (e i ∷ []))

  -- the same at record i of n
  pub records-set : {w w' : List ℕ} (b n i : ℕ) (a : A) → Kept w w' (b + i * s) s → f (chunk w' (b + i * s) s) ≡ a → i < n → records f s w' b n ≡ set (records f s w b n) i a
  unfolding records
  records-set {w} {w'} b n i a K e h =
      tab-set n (λ j. f (chunk w (b + j * s) s)) (λ j. f (chunk w' (b + j * s) s)) i h (λ j l ne. ap f (K.same (b + j * s) s (apart_of b j i s ne)))
      ∙ ap (set (tab n (λ j. f (chunk w (b + j * s) s))) i) e

  -- ---- a part of the slice that was lent, `&mut w[a..e]`: the callee's place b is the whole's place a + b

  pub records-lent : (w : List ℕ) (a k b n : ℕ) → b + n * s ≤ k → records f s (chunk w a k) b n ≡ records f s w (a + b) n
  unfolding records
  records-lent w a k b n h =
      tab-ext n (λ i. f (chunk (chunk w a k) (b + i * s) s)) (λ i. f (chunk w (a + b + i * s) s))
      (λ i l. ap f (chunk_part w a k (b + i * s) s (omega (arith, inside i n s l)) ∙ ap (λ (p : ℕ). chunk w p s) (omega arith)))

  pub records-back : (w ys : List ℕ) (a k b n : ℕ) → length ys ≡ k → a + k ≤ length w → b + n * s ≤ k → records f s (overlay a ys w) (a + b) n ≡ records f s ys b n
  records-back w ys a k b n e h g =
      sym (records-lent (overlay a ys w) a k b n g) ∙ ap (λ (l : List ℕ). records f s l b n) (chunk-over a ys w k e h)

  -- ---- a record copied

  -- to the place past n records, from anywhere
  pub records-copy_push : {w w' : List ℕ} {from : ℕ} (b n : ℕ) → CopiedBytes w w' from (b + n * s) s → records f s w' b (n + 1) ≡ records f s w b n ++ (f (chunk w from s) ∷ [])
  records-copy_push {w} {w'} {from} b n C = records-push b n (f (chunk w from s)) C.rest (ap f C.same)

-- ---- a table of numbers of k bytes

module _ (k : ℕ) where
  pub numbers-at : (w : List ℕ) (b n i : ℕ) (d : ℕ) → i < n → get_or (records le k w b n) i d ≡ le_at k w (b + i * k)
  numbers-at w b n i d h = records-at le k w b n i d h ∙ sym (le_at-is k w (b + i * k))

  pub numbers-push : {w w' : List ℕ} {v : ℕ} (b n : ℕ) → Wrote w w' (b + n * k) k v → records le k w' b (n + 1) ≡ records le k w b n ++ (v ∷ [])
  numbers-push {w} {w'} {v} b n W = records-push le k b n v W.rest (sym (le_at-is k w' (b + n * k)) ∙ W.value)
