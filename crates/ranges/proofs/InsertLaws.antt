-- One range more, by a pass over ranges that are apart, is merging.
use mathlib.Core.Path.{◌≡◌, refl, ap, ◌∙◌}
use mathlib.Core.Logic.{◌⊎◌, inl, inr, ◌↔◌}
use mathlib.Core.List.{List, [], ◌∷◌, ◌++◌}
use mathlib.Core.Bool.{Bool, true, false}
use Prim.Native.Nat.{ℕ, ◌≤◌, ◌<◌}
use native.Mathlib.Omega.{arith}
use lib.Dec.{ltb}
use borrow.Author.Tests.{ltb-true, ltb-false, lt-ltb, le-ltb}
use Rattle.tlv.specs.declared.model.AddressRange.{AddressRange}
use Rattle.tlv.specs.Lists.{All}
use Rattle.tlv.specs.Addresses.{RangeHolds, Nonempty}
use Rattle.imports.specs.Ranges.{Holds, Above, Apart, coalesce_ranges}
use Rattle.imports.proofs.RangeLaws.{merge_is}
use Rattle.ranges.specs.RangeTable.{hull, add_met, add_one}

-- ---- a turn of the pass

pub add_stay : (r m : AddressRange) (ms : List AddressRange) → m.end < r.start → add_one r (m ∷ ms) ≡ m ∷ add_one r ms
unfolding add_one
add_stay r m ms h = rw (lt-ltb m.end r.start h)

pub add_pass : (r m : AddressRange) (ms : List AddressRange) → r.start ≤ m.end → r.end < m.start → add_one r (m ∷ ms) ≡ r ∷ add_one m ms
unfolding add_one
add_pass r m ms h k = rw (le-ltb m.end r.start h, lt-ltb r.end m.start k)

pub add_join : (r m : AddressRange) (ms : List AddressRange) → r.start ≤ m.end → m.start ≤ r.end → add_one r (m ∷ ms) ≡ add_one (hull r m) ms
unfolding add_one
add_join r m ms h k = rw (le-ltb m.end r.start h, le-ltb r.end m.start k)

-- ---- the result is apart

above-weaken : (e d : ℕ) (ms : List AddressRange) → e ≤ d → Above d ms → Above e ms
above-weaken e d [] h k = tt
above-weaken e d (m ∷ ms) h k = omega arith

add-above : (e : ℕ) (r : AddressRange) (ms : List AddressRange) → e < r.start → Above e ms → Apart ms → Above e (add_one r ms)
unfolding add_one
add-above e r [] h k p = h
add-above e r (m ∷ ms) h k p =
    go (ltb m.end r.start) (ltb r.end m.start) (add-above e (hull r m) ms (omega arith) (above-weaken e m.end ms (omega (arith, p.0)) p.1) p.2)
  where
    go : (b c : Bool) → Above e (add_one (hull r m) ms) → Above e (add_met b c r m (λ x. add_one x ms))
    go true c ih = k
    go false true ih = h
    go false false ih = ih

pub add_apart : (r : AddressRange) (ms : List AddressRange) → Nonempty r → Apart ms → Apart (add_one r ms)
unfolding add_one
add_apart r [] h p = (h, tt, tt)
add_apart r (m ∷ ms) h p = go (ltb m.end r.start) refl (ltb r.end m.start) refl (λ x k. add_apart x ms k p.2)
  where
    go : (b : Bool) → ltb m.end r.start ≡ b → (c : Bool) → ltb r.end m.start ≡ c → ((x : AddressRange) → Nonempty x → Apart (add_one x ms)) → Apart (add_met b c r m (λ x. add_one x ms))
    go true e c d ih = (p.0, add-above m.end r ms (ltb-true m.end r.start e) p.1 p.2, ih r h)
    go false e true d ih =
        let l = ltb-true r.end m.start d in
        (h, add-above r.end m ms l (above-weaken r.end m.end ms (omega (arith, p.0)) p.1) p.2, ih m p.0)
    go false e false d ih = ih (hull r m) (omega arith)

-- ---- and holds the addresses of all

module _ (a : ℕ) where
  hull-down : (r m : AddressRange) → r.start ≤ m.end → m.start ≤ r.end → RangeHolds (hull r m) a → RangeHolds r a ⊎ RangeHolds m a
  hull-down r m h k p = go (ltb a r.start) refl (ltb a r.end) refl
    where
      go : (b : Bool) → ltb a r.start ≡ b → (c : Bool) → ltb a r.end ≡ c → RangeHolds r a ⊎ RangeHolds m a
      go true e c d = let l = ltb-true a r.start e in inr (omega arith, omega arith)
      go false e true d = inl (ltb-false a r.start e, ltb-true a r.end d)
      go false e false d = let l = ltb-false a r.end d in let g = ltb-false a r.start e in inr (omega arith, omega arith)

  Meets : AddressRange → List AddressRange → List AddressRange → Type 0
  Meets r ms rs = Holds rs a ↔ (RangeHolds r a ⊎ Holds ms a)

  add_holds : (r : AddressRange) (ms : List AddressRange) → Meets r ms (add_one r ms)
  unfolding add_one Meets
  add_holds r [] = (λ p. p, λ p. p)
  add_holds r (m ∷ ms) = go (ltb m.end r.start) refl (ltb r.end m.start) refl (λ x. add_holds x ms)
    where
      stay_down : Meets r ms (add_one r ms) → RangeHolds m a ⊎ Holds (add_one r ms) a → RangeHolds r a ⊎ (RangeHolds m a ⊎ Holds ms a)
      stay_down ih (inl p) = inr (inl p)
      stay_down ih (inr p) = more (ih.0 p)
        where
          more : RangeHolds r a ⊎ Holds ms a → RangeHolds r a ⊎ (RangeHolds m a ⊎ Holds ms a)
          more (inl q) = inl q
          more (inr q) = inr (inr q)

      stay_up : Meets r ms (add_one r ms) → RangeHolds r a ⊎ (RangeHolds m a ⊎ Holds ms a) → RangeHolds m a ⊎ Holds (add_one r ms) a
      stay_up ih (inl p) = inr (ih.1 (inl p))
      stay_up ih (inr (inl p)) = inl p
      stay_up ih (inr (inr p)) = inr (ih.1 (inr p))

      pass_down : Meets m ms (add_one m ms) → RangeHolds r a ⊎ Holds (add_one m ms) a → RangeHolds r a ⊎ (RangeHolds m a ⊎ Holds ms a)
      pass_down ih (inl p) = inl p
      pass_down ih (inr p) = inr (ih.0 p)

      pass_up : Meets m ms (add_one m ms) → RangeHolds r a ⊎ (RangeHolds m a ⊎ Holds ms a) → RangeHolds r a ⊎ Holds (add_one m ms) a
      pass_up ih (inl p) = inl p
      pass_up ih (inr p) = inr (ih.1 p)

      join-down : r.start ≤ m.end → m.start ≤ r.end → RangeHolds (hull r m) a ⊎ Holds ms a → RangeHolds r a ⊎ (RangeHolds m a ⊎ Holds ms a)
      join-down h k (inl p) = more (hull-down r m h k p)
        where
          more : RangeHolds r a ⊎ RangeHolds m a → RangeHolds r a ⊎ (RangeHolds m a ⊎ Holds ms a)
          more (inl q) = inl q
          more (inr q) = inr (inl q)
      join-down h k (inr p) = inr (inr p)

      join_up : RangeHolds r a ⊎ (RangeHolds m a ⊎ Holds ms a) → RangeHolds (hull r m) a ⊎ Holds ms a
      join_up (inl p) = inl (omega arith, omega arith)
      join_up (inr (inl p)) = inl (omega arith, omega arith)
      join_up (inr (inr p)) = inr p

      go : (b : Bool) → ltb m.end r.start ≡ b → (c : Bool) → ltb r.end m.start ≡ c → ((x : AddressRange) → Meets x ms (add_one x ms)) → Meets r (m ∷ ms) (add_met b c r m (λ x. add_one x ms))
      go true e c d ih = (stay_down (ih r), stay_up (ih r))
      go false e true d ih = (pass_down (ih m), pass_up (ih m))
      go false e false d ih =
          (λ p. join-down (ltb-false m.end r.start e) (ltb-false r.end m.start d) ((ih (hull r m)).0 p), λ p. (ih (hull r m)).1 (join_up p))

-- ---- so it is the merge

pub apart-nonempty : (rs : List AddressRange) → Apart rs → All Nonempty rs
apart-nonempty [] h = tt
apart-nonempty (r ∷ rs) h = (h.0, apart-nonempty rs h.2)

pub add_is : (r : AddressRange) (ms : List AddressRange) → Nonempty r → Apart ms → add_one r ms ≡ coalesce_ranges (r ∷ ms)
unfolding Meets
add_is r ms h p = merge_is (r ∷ ms) (add_one r ms) (h, apart-nonempty ms p) (add_apart r ms h p) (λ a. add_holds a r ms)

-- merging changes nothing in ranges that are apart
pub merge-merged : (ms : List AddressRange) → Apart ms → ms ≡ coalesce_ranges ms
merge-merged ms p = merge_is ms ms (apart-nonempty ms p) p (λ a. (λ h. h, λ h. h))

-- ---- a range that starts at or behind the last one's start

last-above : (e : ℕ) (xs : List AddressRange) (l : AddressRange) → Above e (xs ++ (l ∷ [])) → Apart (xs ++ (l ∷ [])) → e < l.start
last-above e [] l h p = h
last-above e (x ∷ xs) l h p = let q = last-above x.end xs l p.1 p.2 in omega (arith, p.0)

-- the pass changes nothing before the last one
pub add_last : (r l : AddressRange) (xs : List AddressRange) → Apart (xs ++ (l ∷ [])) → l.start ≤ r.start → add_one r (xs ++ (l ∷ [])) ≡ xs ++ add_one r (l ∷ [])
add_last r l [] p h = refl
add_last r l (x ∷ xs) p h =
    let q = last-above x.end xs l p.1 p.2 in
    add_stay r x (xs ++ (l ∷ [])) (omega arith) ∙ ap (λ (ys : List AddressRange). x ∷ ys) (add_last r l xs p.2 h)
