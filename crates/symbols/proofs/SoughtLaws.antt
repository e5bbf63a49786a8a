-- Which range of a table holds an address: a search by halves among ranges that are apart, a look at each behind them.
use mathlib.Core.Path.{◌≡◌, refl, sym, ap, subst, ◌∙◌}
use mathlib.Core.Bool.{Bool, true, false, cond, ◌&&◌, true≢false}
use mathlib.Core.Logic.{◌⊎◌, inl, inr, ◌↔◌}
use mathlib.Core.List.{List, [], ◌∷◌, ◌++◌}
use Prim.Native.Nat.{ℕ, zero, suc, ◌+◌, ◌-◌, ◌*◌, ◌≤◌, ◌<◌}
use native.Mathlib.Omega.{arith}
use native.Mathlib.Decide.{dec_le}
use lib.Dec.{leb, ltb}
use borrow.Author.Tests.{ltb-true, ltb-false, le-leb, lt-leb, lt-ltb, le-ltb}
use Rattle.tlv.specs.declared.model.AddressRange.{AddressRange}
use Rattle.tlv.specs.Lists.{exists}
use Rattle.tlv.specs.Model.{range_of}
use Rattle.buffers.specs.Table.{chunk, tab, records}
use Rattle.imports.specs.Ranges.{Holds, Above, Apart}
use Rattle.ranges.specs.RangeTable.{ranges_at}
use Rattle.ranges.proofs.RangeTableLaws.{ranges-add}
use Rattle.lookup.specs.Lookup.{holds}
use Rattle.lookup.proofs.DemandLaws.{some_holds}

-- ---- tests and statements

holds-false : (a : ℕ) (r : AddressRange) → (r.end ≤ a) ⊎ (a < r.start) → holds a r ≡ false
holds-false a r (inl h) = go (leb r.start a)
  where
    go : (b : Bool) → (b && ltb a r.end) ≡ false
    go true = le-ltb a r.end h
    go false = refl
holds-false a r (inr h) = rw (lt-leb r.start a h)

holds-true : (a : ℕ) (r : AddressRange) → r.start ≤ a → a < r.end → holds a r ≡ true
holds-true a r h k = rw (le-leb r.start a h, lt-ltb a r.end k)

pub exists-holds : (a : ℕ) (rs : List AddressRange) → Holds rs a → exists (holds a) rs ≡ true
unfolding exists
exists-holds a [] x' = elim x' [ ]
exists-holds a (r ∷ rs) (inl h) = rw (holds-true a r h.0 h.1)
exists-holds a (r ∷ rs) (inr h) = go (holds a r) (exists-holds a rs h)
  where
    go : (b : Bool) → exists (holds a) rs ≡ true → cond b true (exists (holds a) rs) ≡ true
    go true e = refl
    go false e = e

-- two lists hold the same, so both tests answer alike
pub same_test : (a : ℕ) (rs ss : List AddressRange) → (Holds rs a ↔ Holds ss a) → exists (holds a) rs ≡ exists (holds a) ss
same_test a rs ss h = go (exists (holds a) rs) refl (exists (holds a) ss) refl
  where
    go : (b : Bool) → exists (holds a) rs ≡ b → (c : Bool) → exists (holds a) ss ≡ c → b ≡ c
    go true e true f = refl
    go false e false f = refl
    go true e false f = absurd (true≢false (sym (exists-holds a ss (h.0 (some_holds a rs e))) ∙ f))
    go false e true f = absurd (true≢false (sym (exists-holds a rs (h.1 (some_holds a ss f))) ∙ e))

-- ---- ranges that are apart, by number

above-all : (e m : ℕ) (g : ℕ → AddressRange) → Above e (tab m g) → Apart (tab m g) → (j : ℕ) → j < m → e < (g j).start
unfolding tab
above-all e zero g h k j l = absurd (omega arith)
above-all e (suc m) g h k zero l = h
above-all e (suc m) g h k (suc j) l =
    let r = above-all (g 0).end m (λ i. g (suc i)) k.1 k.2 j (omega arith) in
    let s = k.0 in
    omega arith

apart-filled : (m : ℕ) (g : ℕ → AddressRange) → Apart (tab m g) → (i : ℕ) → i < m → (g i).start < (g i).end
unfolding tab
apart-filled zero g k i l = absurd (omega arith)
apart-filled (suc m) g k zero l = k.0
apart-filled (suc m) g k (suc i) l = apart-filled m (λ j. g (suc j)) k.2 i (omega arith)

apart-order : (m : ℕ) (g : ℕ → AddressRange) → Apart (tab m g) → (i j : ℕ) → i < j → j < m → (g i).end < (g j).start
unfolding tab
apart-order zero g k i j l h = absurd (omega arith)
apart-order (suc m) g k i zero l h = absurd (omega arith)
apart-order (suc m) g k zero (suc j) l h = above-all (g 0).end m (λ i. g (suc i)) k.1 k.2 j (omega arith)
apart-order (suc m) g k (suc i) (suc j) l h = apart-order m (λ n. g (suc n)) k.2 i j (omega arith) (omega arith)

tab-none : (a m : ℕ) (g : ℕ → AddressRange) → ((i : ℕ) → i < m → holds a (g i) ≡ false) → exists (holds a) (tab m g) ≡ false
unfolding tab exists
tab-none a zero g h = refl
tab-none a (suc m) g h = rw (h 0 (omega arith)) (tab-none a m (λ i. g (suc i)) (λ i l. h (suc i) (omega arith)))

tab-some : (a m : ℕ) (g : ℕ → AddressRange) (i : ℕ) → i < m → holds a (g i) ≡ true → exists (holds a) (tab m g) ≡ true
unfolding tab exists
tab-some a zero g i l h = absurd (omega arith)
tab-some a (suc m) g zero l h = rw h
tab-some a (suc m) g (suc i) l h = go (holds a (g 0)) (tab-some a m (λ j. g (suc j)) i (omega arith) h)
  where
    go : (b : Bool) → exists (holds a) (tab m (λ j. g (suc j))) ≡ true → cond b true (exists (holds a) (tab m (λ j. g (suc j)))) ≡ true
    go true e = refl
    go false e = e

-- ---- the search

module _ (w : List ℕ) (p n : ℕ) where
  abbrev range_no : ℕ → AddressRange
  range_no i = range_of (chunk w (p + i * 16) 16)

  -- the first m start at or below the address: the last of them does, and the one behind starts above it
  module _ (apart : Apart (ranges_at w p n)) (a m : ℕ) (within : m ≤ n) (above : m < n → a < (range_no m).start) where
    filled : (i : ℕ) → i < n → (range_no i).start < (range_no i).end
    unfolding ranges_at records
    filled i l = apart-filled n range_no apart i l

    ordered : (i j : ℕ) → i < j → j < n → (range_no i).end < (range_no j).start
    unfolding ranges_at records
    ordered i j l h = apart-order n range_no apart i j l h

    none : ((i : ℕ) → i < m → (range_no i).end ≤ a) → false ≡ exists (holds a) (ranges_at w p n)
    unfolding ranges_at records
    none low = sym (tab-none a n range_no each)
      where
        high : (i : ℕ) → m ≤ i → i < n → a < (range_no i).start
        high i k l = elim (dec_le i m) [
          | yes h ↦ let s : i ≡ m = omega arith in subst (λ (j : ℕ). a < (range_no j).start) (sym s) (above (omega arith))
          | no h ↦ let s = above (omega arith) in let f = filled m (omega arith) in let o = ordered m i (omega arith) l in omega arith
        ]

        each : (i : ℕ) → i < n → holds a (range_no i) ≡ false
        each i l = elim (dec_le m i) [
          | yes k ↦ holds-false a (range_no i) (inr (high i k l))
          | no k ↦ holds-false a (range_no i) (inl (low i (omega arith)))
        ]

    pub sought-none : m ≡ 0 → false ≡ exists (holds a) (ranges_at w p n)
    sought-none z = none (λ i l. absurd (omega arith))

    module _ (x : AddressRange) (is : x ≡ range_no (m - 1)) (some : (m ≡ 0 → ⊥)) (below : (range_no (m - 1)).start ≤ a) where
      sought-held : a < x.end → true ≡ exists (holds a) (ranges_at w p n)
      unfolding ranges_at records
      sought-held h =
          let up : a < (range_no (m - 1)).end = subst (λ (r : AddressRange). a < r.end) is h in
          sym (tab-some a n range_no (m - 1) (omega arith) (holds-true a (range_no (m - 1)) below up))

      sought-past : x.end ≤ a → false ≡ exists (holds a) (ranges_at w p n)
      sought-past h =
          let low : (range_no (m - 1)).end ≤ a = subst (λ (r : AddressRange). r.end ≤ a) is h in
          none (λ i l. elim (dec_le (m - 1) i) [
            | yes k ↦ let s : i ≡ m - 1 = omega arith in subst (λ (j : ℕ). (range_no j).end ≤ a) (sym s) low
            | no k ↦ let o = ordered i (m - 1) (omega arith) (omega arith) in omega arith
          ])

      pub sought-last : ltb a x.end ≡ exists (holds a) (ranges_at w p n)
      sought-last = go (ltb a x.end) refl
        where
          go : (b : Bool) → ltb a x.end ≡ b → b ≡ exists (holds a) (ranges_at w p n)
          go true q = sought-held (ltb-true a x.end q)
          go false q = sought-past (ltb-false a x.end q)

-- ---- both parts of a table

exists-both : (a : ℕ) (rs ss : List AddressRange) → exists (holds a) (rs ++ ss) ≡ cond (exists (holds a) rs) true (exists (holds a) ss)
unfolding exists
exists-both a [] ss = refl
exists-both a (r ∷ rs) ss = rw (exists-both a rs ss) (go (holds a r))
  where
    go : (b : Bool) → cond b true (cond (exists (holds a) rs) true (exists (holds a) ss)) ≡ cond (cond b true (exists (holds a) rs)) true (exists (holds a) ss)
    go true = refl
    go false = refl

module _ (w : List ℕ) (p m n a : ℕ) (b : Bool) (l : m ≤ n) (first : b ≡ exists (holds a) (ranges_at w p m)) where
  parts : exists (holds a) (ranges_at w p n) ≡ cond b true (exists (holds a) (ranges_at w (p + m * 16) (n - m)))
  parts =
      let whole : m + (n - m) ≡ n = omega arith in
      ap (λ (k : ℕ). exists (holds a) (ranges_at w p k)) (sym whole)
      ∙ ap (λ (rs : List AddressRange). exists (holds a) rs) (ranges-add w p m (n - m))
      ∙ exists-both a (ranges_at w p m) (ranges_at w (p + m * 16) (n - m))
      ∙ ap (λ (c : Bool). cond c true (exists (holds a) (ranges_at w (p + m * 16) (n - m)))) (sym first)

  pub in-first : b ≡ true → true ≡ exists (holds a) (ranges_at w p n)
  in-first e = sym (parts ∙ rw e)

  pub in_rest : (c : Bool) → b ≡ false → c ≡ exists (holds a) (ranges_at w (p + m * 16) (n - m)) → c ≡ exists (holds a) (ranges_at w p n)
  in_rest c e is = is ∙ sym (parts ∙ rw e)
