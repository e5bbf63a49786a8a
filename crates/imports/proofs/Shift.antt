-- The entries below a subprogram are those after it that are deeper, up to the first that is not; and parents there are parents in the unit.
use mathlib.Core.Path.{◌≡◌, refl, sym, ap, subst, ◌∙◌}
use mathlib.Core.Logic.{◌⊎◌, inl, inr, ◌≢◌}
use mathlib.Core.List.{List, []}
use mathlib.Core.Bool.{Bool, true, false}
use Prim.Native.Nat.{ℕ, zero, suc, ◌+◌, ◌-◌, ◌≤◌, ◌<◌}
use native.Mathlib.Omega.{arith}
use native.Mathlib.Nat.{eq-or-lt_of_le}
use lib.Dec.{ltb, eqb}
use lib.ListN.{length, drop, length-drop}
use lib.Seq.{get_or-drop}
use borrow.Author.Tests.{ltb-true, ltb-false, eqb-true, eqb-false}
use Rattle.tlv.proofs.TestLaws.{by_less}
use Rattle.tlv.proofs.PlaceLaws.{while-length, while_at, while_stop}
use Rattle.imports.specs.Agree.{TreeEntry, ParentOf, entry, entry_depth, Ancestor, parent, further, Below}
use Rattle.imports.proofs.ListAgree.{below_of}

module _ (us : List TreeEntry) (s : ℕ) where
  under : TreeEntry → Bool
  under e = ltb (entry_depth us s) e.depth

  blank : TreeEntry
  blank = record { depth = 0; tag = 0; name = []; ranges = [] }

  pub below_at : (i : ℕ) → i < length (below_of us s) → entry (below_of us s) i ≡ entry us (suc s + i)
  unfolding below_of under blank
  below_at i l = (while_at under blank (drop (suc s) us) i l).0 ∙ get_or-drop (suc s) us i blank

  pub below-deeper : (i : ℕ) → i < length (below_of us s) → entry_depth us s < entry_depth us (suc s + i)
  unfolding below_of under blank
  below-deeper i l = ltb-true (entry_depth us s) (entry_depth us (suc s + i)) (rw get_or-drop at (while_at under blank (drop (suc s) us) i l).1)

  pub below_length : s < length us → suc s + length (below_of us s) ≤ length us
  unfolding below_of under
  below_length h = omega (arith, while-length under (drop (suc s) us), length-drop (suc s) us)

  pub below-stop : suc s + length (below_of us s) < length us → entry_depth us (suc s + length (below_of us s)) ≤ entry_depth us s
  unfolding below_of under blank
  below-stop h = ltb-false (entry_depth us s) (entry_depth us (suc s + length (below_of us s))) (rw get_or-drop at (while_stop under blank (drop (suc s) us) (omega (arith, length-drop (suc s) us))))

-- ---- parents, shifted

module _ (depth deeper : ℕ → ℕ) (c : ℕ) where
  pub parent-shift : (i p : ℕ) → ((k : ℕ) → k ≤ i → deeper (c + k) ≡ depth k) → ParentOf depth i p → ParentOf deeper (c + i) (c + p)
  parent-shift i p h q = record { earlier = omega (arith, q.earlier); higher = omega (arith, q.earlier, h p (omega (arith, q.earlier)), h i (omega arith), q.higher); last = last }
    where
      last : (k : ℕ) → c + p < k → k < c + i → suc (deeper k) ≢ deeper (c + i)
      last k l m e =
          let w : k ≡ c + (k - c) = omega arith in
          let v : deeper k ≡ depth (k - c) = ap deeper w ∙ h (k - c) (omega arith) in
          q.last (k - c) (omega arith) (omega arith) (omega (arith, h i (omega arith)))

  pub parent-unshift : (i p : ℕ) → ((k : ℕ) → k ≤ i → deeper (c + k) ≡ depth k) → ParentOf deeper (c + i) (c + p) → ParentOf depth i p
  parent-unshift i p h q = record { earlier = omega (arith, q.earlier); higher = omega (arith, q.earlier, h p (omega (arith, q.earlier)), h i (omega arith), q.higher); last = last }
    where
      last : (k : ℕ) → p < k → k < i → suc (depth k) ≢ depth i
      last k l m e = q.last (c + k) (omega arith) (omega arith) (omega (arith, h k (omega arith), h i (omega arith)))

-- ---- where each step goes down by one at most: parents and what lies between

module _ (depth : ℕ → ℕ) (steps : (i : ℕ) → depth (suc i) ≤ suc (depth i)) where
  -- what lies between an entry and its parent is deeper than the parent
  between : (i p : ℕ) → ParentOf depth i p → (t k : ℕ) → k + t ≡ i → p < k → depth p < depth k
  between i p q zero k e l = let w : k ≡ i = omega arith in omega (arith, ap depth w, q.higher)
  between i p q (suc t) k e l =
      let u = between i p q t (suc k) (omega arith) (omega arith) in
      let v = q.last k l (omega arith) in
      omega (arith, steps k, q.higher)

  pub ancestor-earlier : {i a : ℕ} → Ancestor depth i a → a < i
  ancestor-earlier (parent q) = q.earlier
  ancestor-earlier (further q t) = let l = ancestor-earlier t in omega (arith, q.earlier)

  -- all from a's successor to i are deeper than a, where a is an ancestor of i
  pub ancestor-deeper : {i a : ℕ} → Ancestor depth i a → (k : ℕ) → a < k → k ≤ i → depth a < depth k
  ancestor-deeper {i} {a} (parent q) k l m = between i a q (i - k) k (omega arith) l
  ancestor-deeper {i} {a} (further {p = p} q t) k l m =
      let later = ancestor-deeper t in
      by_less (depth a < depth k) p k (λ h. omega (arith, between i p q (i - k) k (omega arith) h, later p (ancestor-earlier t) (omega arith))) (later k l)

  -- all after k are as deep as i: k is the parent of i, or as deep as i too
  parent-or : (i k : ℕ) → k < i → ((m : ℕ) → k < m → m < i → depth i ≤ depth m) → ParentOf depth i k ⊎ ((m : ℕ) → k ≤ m → m < i → depth i ≤ depth m)
  parent-or i k l h = go (eqb (suc (depth k)) (depth i)) refl
    where
      step : (suc k ≡ i) ⊎ (suc k < i) → depth i ≤ suc (depth k)
      step (inl e) = omega (arith, steps k, ap depth e)
      step (inr m) = omega (arith, steps k, h (suc k) (omega arith) m)

      again : (suc (depth k) ≢ depth i) → (m : ℕ) → m < i → (k ≡ m) ⊎ (k < m) → depth i ≤ depth m
      again z m b (inl w) = omega (arith, step (eq-or-lt_of_le l), ap depth w)
      again z m b (inr a) = h m a b

      go : (b : Bool) → eqb (suc (depth k)) (depth i) ≡ b → ParentOf depth i k ⊎ ((m : ℕ) → k ≤ m → m < i → depth i ≤ depth m)
      go true q = inl (record { earlier = l; higher = eqb-true (suc (depth k)) (depth i) q; last = λ m a b. let z = h m a b in omega arith })
      go false q = inr (λ m a b. again (eqb-false (suc (depth k)) (depth i) q) m b (eq-or-lt_of_le a))

  -- the search for the parent, from s + t down to s
  parent-from : (s i : ℕ) → depth s < depth i → (t : ℕ) → s + t < i → ((m : ℕ) → s + t < m → m < i → depth i ≤ depth m) → (p : ℕ) × (s ≤ p) × ParentOf depth i p
  parent-from s i d zero l h = go (parent-or i s (omega arith) (λ m a b. h m (omega arith) b))
    where
      go : ParentOf depth i s ⊎ ((m : ℕ) → s ≤ m → m < i → depth i ≤ depth m) → (p : ℕ) × (s ≤ p) × ParentOf depth i p
      go (inl q) = (s, omega arith, q)
      go (inr g) = absurd (omega (arith, g s (omega arith) (omega arith)))
  parent-from s i d (suc t) l h = go (parent-or i (s + suc t) l h) (parent-from s i d t (omega arith))
    where
      go : ParentOf depth i (s + suc t) ⊎ ((m : ℕ) → s + suc t ≤ m → m < i → depth i ≤ depth m) → (((m : ℕ) → s + t < m → m < i → depth i ≤ depth m) → (p : ℕ) × (s ≤ p) × ParentOf depth i p) → (p : ℕ) × (s ≤ p) × ParentOf depth i p
      go (inl q) ih = (s + suc t, omega arith, q)
      go (inr g) ih = ih (λ m a b. g m (omega arith) b)

  -- an entry after s, deeper than s as are all between, has its parent at s or after
  pub parent-after : (s i : ℕ) → s < i → depth s < depth i → (p : ℕ) × (s ≤ p) × ParentOf depth i p
  parent-after s i l d = parent-from s i d (i - 1 - s) (omega arith) (λ m a b. absurd (omega arith))

  ancestor_by : (n s i : ℕ) → i < n → s < i → ((m : ℕ) → s < m → m ≤ i → depth s < depth m) → Ancestor depth i s
  ancestor_by zero s i b l h = absurd (omega arith)
  ancestor_by (suc n) s i b l h = go (parent-after s i l (h i l (omega arith))) (λ j. ancestor_by n s j)
    where
      go : (p : ℕ) × (s ≤ p) × ParentOf depth i p → ((j : ℕ) → j < n → s < j → ((m : ℕ) → s < m → m ≤ j → depth s < depth m) → Ancestor depth j s) → Ancestor depth i s
      go t ih = at (eq-or-lt_of_le t.1)
        where
          at : (s ≡ t.0) ⊎ (s < t.0) → Ancestor depth i s
          at (inl e) = parent (subst (λ (p : ℕ). ParentOf depth i p) (sym e) t.2)
          at (inr g) = further t.2 (ih t.0 (omega (arith, t.2.earlier)) g (λ m a c. h m a (omega (arith, t.2.earlier))))

  pub ancestor_of : (s i : ℕ) → s < i → ((m : ℕ) → s < m → m ≤ i → depth s < depth m) → Ancestor depth i s
  ancestor_of s i = ancestor_by (suc i) s i (omega arith)

-- ---- below means through parents

module _ (us : List TreeEntry) (s : ℕ) (steps : (i : ℕ) → entry_depth us (suc i) ≤ suc (entry_depth us i)) (l : s < length us) where
  pub below-is : (i : ℕ) → i < length (below_of us s) → Below us s (suc s + i)
  below-is i h = (omega (arith, below_length us s l), ancestor_of (entry_depth us) steps s (suc s + i) (omega arith) (λ m a b. deeper m a b))
    where
      deeper : (m : ℕ) → s < m → m ≤ suc s + i → entry_depth us s < entry_depth us m
      deeper m a b = let w : suc s + (m - suc s) ≡ m = omega arith in rw w at (below-deeper us s (m - suc s) (omega arith))

  pub is_below : (i : ℕ) → Below us s i → (s < i) × (i < suc s + length (below_of us s))
  is_below i h = (ancestor-earlier (entry_depth us) steps h.1, by_less (i < suc s + length (below_of us s)) i (suc s + length (below_of us s)) (λ g. g) past)
    where
      past : suc s + length (below_of us s) ≤ i → i < suc s + length (below_of us s)
      past g =
          let d = ancestor-deeper (entry_depth us) steps h.1 (suc s + length (below_of us s)) (omega arith) g in
          absurd (omega (arith, below-stop us s (omega (arith, h.0))))
