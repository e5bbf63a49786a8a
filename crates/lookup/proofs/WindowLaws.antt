-- The tests of a window say what the request says.
use mathlib.Core.Path.{◌≡◌, refl}
use mathlib.Core.Bool.{Bool, true, false, ◌&&◌, not}
use mathlib.Core.Logic.{◌⊎◌, inl, inr, ◌↔◌}
use Prim.Native.Nat.{ℕ, ◌-◌, ◌≤◌, ◌<◌, min, max}
use native.Mathlib.Omega.{arith}
use lib.Dec.{leb, ltb}
use borrow.Author.Tests.{leb-true, leb-false, le-leb, ltb-true, lt-ltb, not-true}
use Rattle.tlv.specs.declared.model.AddressRange.{AddressRange}
use Rattle.tlv.specs.Addresses.{RangeHolds, Nonempty}
use Rattle.tlv.proofs.TestLaws.{and_left, and_right}
use Rattle.lookup.specs.Window.{inside, crosses}
use Rattle.lookup.specs.Means.{Windows}

module _ (w r : AddressRange) where
  inside-start : inside w r ≡ true → w.start ≤ r.start
  inside-start e = leb-true _ _ (and_left (leb w.start r.start) (leb r.end w.end) e)

  inside-end : inside w r ≡ true → r.end ≤ w.end
  inside-end e = leb-true _ _ (and_right (leb w.start r.start) (leb r.end w.end) e)

  is-inside : w.start ≤ r.start → r.end ≤ w.end → inside w r ≡ true
  is-inside h k = rw (le-leb w.start r.start h, le-leb r.end w.end k)

  -- it starts before the window, or ends behind it
  not-inside : inside w r ≡ false → (r.start < w.start) ⊎ (w.end < r.end)
  not-inside e = go (leb w.start r.start) refl e
    where
      go : (b : Bool) → leb w.start r.start ≡ b → (b && leb r.end w.end) ≡ false → (r.start < w.start) ⊎ (w.end < r.end)
      go true h k = inr (leb-false _ _ k)
      go false h k = inl (leb-false _ _ h)

  module _ (n : Nonempty r) where
    pub inside-law : (inside w r ≡ true) ↔ ((a : ℕ) → RangeHolds r a → RangeHolds w a)
    inside-law = (
      λ e. λ a h. let s = inside-start e in let k = inside-end e in (omega arith, omega arith),
      λ f. let s = f r.start (omega arith, n) in let l = f (r.end - 1) (omega arith, omega arith) in is-inside s.0 (omega arith),
    )

    abbrev Out : Type 0
    Out = (a : ℕ) × RangeHolds r a × (¬ RangeHolds w a)

    abbrev Shared : Type 0
    Shared = (a : ℕ) × RangeHolds r a × RangeHolds w a

    out_of : inside w r ≡ false → Out
    out_of e = go (not-inside e)
      where
        go : (r.start < w.start) ⊎ (w.end < r.end) → Out
        go (inl h) = (r.start, (omega arith, n), λ k. let l = k.0 in omega arith)
        go (inr h) = (r.end - 1, (omega arith, omega arith), λ k. let l = k.1 in omega arith)

    shared_of : max w.start r.start < min w.end r.end → Shared
    shared_of h = (max w.start r.start, (omega arith, omega arith), (omega arith, omega arith))

    not_in : Out → inside w r ≡ false
    not_in x = go (inside w r) refl
      where
        go : (b : Bool) → inside w r ≡ b → b ≡ false
        go true e = absurd (x.2 (inside-law.0 e x.0 x.1))
        go false e = refl

    pub crosses-law : (crosses w r ≡ true) ↔ (Shared × Out)
    crosses-law = (
      λ e. (
        shared_of (ltb-true _ _ (and_left _ (not (inside w r)) e)),
        out_of
            (not-true _ (and_right (ltb (max w.start r.start) (min w.end r.end)) _ e)),
      ),
      λ x.
          let h = x.0.1 in
          let k = x.0.2 in
          let s : max w.start r.start < min w.end r.end = omega arith in
          rw (lt-ltb (max w.start r.start) (min w.end r.end) s, not_in x.1),
    )

pub windows : Windows
windows = record { inside_is = inside-law; crosses-is = crosses-law }
