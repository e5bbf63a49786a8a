-- What an entry keeps: `keep` obeys document 01's rule.
use mathlib.Core.Path.{◌≡◌, refl, subst}
use mathlib.Core.Logic.{◌⊎◌, inl, inr, ◌↔◌, ◌≢◌}
use mathlib.Core.List.{List, [], ◌∷◌, cons≢nil}
use mathlib.Core.Bool.{Bool, true, false, ◌&&◌, cond, not, false≢true, or-true}
use Prim.Native.Nat.{ℕ}
use native.Mathlib.Omega.{arith}
use lib.Dec.{leb, ltb, eqb}
use borrow.Author.Tests.{leb-true, ltb-true, eqb-true, not-true, le-leb, lt-ltb, eq-eqb}
use Rattle.tlv.specs.declared.model.AddressRange.{AddressRange}
use Rattle.tlv.specs.Lists.{Any, All, filter, is_empty}
use Rattle.tlv.specs.Addresses.{RangeHolds, Inside}
use Rattle.tlv.proofs.TestLaws.{by_test, and_left, and_right, or_either, filled-empty, empty-filled}
use Rattle.tlv.proofs.ListLaws.{all_map, all-each, any_map, any_one, any_some, some-any, all_filter, any-filter}
use Rattle.imports.specs.Ranges.{Holds, Apart, coalesce_ranges, join_all, sort}
use Rattle.imports.specs.Tree.{lies_in, fit}
use Rattle.imports.specs.Agree.{TreeEntry, Fits, Rule}
use Rattle.imports.proofs.StackMachine.{keep}
use Rattle.imports.proofs.RangeLaws.{merge-apart, merge_inside, merge-holds, merge-within}

-- ---- the ranges that fit

pub lies_true : (ps : List AddressRange) (r : AddressRange) → lies_in ps r ≡ true → Any (Inside r) ps
lies_true [] r e = absurd (false≢true e)
lies_true (p ∷ ps) r e = go (or_either (leb p.start r.start && leb r.end p.end) (lies_in ps r) e) (lies_true ps r)
  where
    go : (leb p.start r.start && leb r.end p.end ≡ true) ⊎ (lies_in ps r ≡ true) → (lies_in ps r ≡ true → Any (Inside r) ps) → Any (Inside r) (p ∷ ps)
    go (inl h) ih =
        inl (leb-true p.start r.start (and_left (leb p.start r.start) (leb r.end p.end) h), leb-true r.end p.end (and_right (leb p.start r.start) (leb r.end p.end) h))
    go (inr h) ih = inr (ih h)

lies_of : (ps : List AddressRange) (r : AddressRange) → Any (Inside r) ps → lies_in ps r ≡ true
lies_of [] r x' = elim x' [ ]
lies_of (p ∷ ps) r (inl h) = rw (le-leb p.start r.start h.0, le-leb r.end p.end h.1)
lies_of (p ∷ ps) r (inr h) = rw (lies_of ps r h) (or-true (leb p.start r.start && leb r.end p.end))

module _ (ps : List AddressRange) where
  fitting : AddressRange → Bool
  fitting r = ltb r.start r.end && lies_in ps r

  fit_is : (rs : List AddressRange) → fit ps rs ≡ filter fitting rs
  unfolding fit filter fitting
  fit_is [] = refl
  fit_is (r ∷ rs) = rw (fit_is rs)

  fits-true : (r : AddressRange) → fitting r ≡ true → Fits ps r
  unfolding fitting
  fits-true r e = (ltb-true r.start r.end (and_left (ltb r.start r.end) (lies_in ps r) e), lies_true ps r (and_right (ltb r.start r.end) (lies_in ps r) e))

  fits-of : (r : AddressRange) → Fits ps r → fitting r ≡ true
  unfolding fitting
  fits-of r h = rw (lt-ltb r.start r.end h.0) (lies_of ps r h.1)

  fit-any : (P : AddressRange → Type 0) (rs : List AddressRange) → Any P (fit ps rs) ↔ Any (λ r. P r × Fits ps r) rs
  fit-any P rs = rw (fit_is rs)
      (λ h. any_map rs (λ r k. (k.0, fits-true r k.1)) ((any-filter P fitting rs).0 h), λ h. (any-filter P fitting rs).1 (any_map rs (λ r k. (k.0, fits-of r k.1)) h))

  pub fit-fits : (rs : List AddressRange) → All (Fits ps) (fit ps rs)
  fit-fits rs = rw (fit_is rs) (all_map (filter fitting rs) (λ r h. fits-true r h.1) (all_filter (λ r. Unit {0}) fitting rs (all-each rs (λ r. tt))))

-- ---- merging keeps a list empty or not

merge_some : (rs : List AddressRange) → rs ≢ [] → coalesce_ranges rs ≢ []
merge_some [] h e = h refl
merge_some (r ∷ rs) h e = subst (Any (Inside r)) e (merge_inside (r ∷ rs)).0

some-merge : (rs : List AddressRange) → coalesce_ranges rs ≢ [] → rs ≢ []
unfolding coalesce_ranges join_all sort
some-merge [] h = h
some-merge (r ∷ rs) h = cons≢nil

-- ---- the rule

module _ (ps : List AddressRange) (e : TreeEntry) where
  tested : Bool
  tested = eqb e.tag 0x1d && not (is_empty e.name)

  keep_of : tested ≡ true → keep ps e ≡ coalesce_ranges (fit ps e.ranges)
  unfolding keep tested
  keep_of h = rw h

  keep_tested : keep ps e ≢ [] → tested ≡ true
  unfolding keep tested
  keep_tested = go (eqb e.tag 0x1d && not (is_empty e.name))
    where
      go : (b : Bool) → cond b (coalesce_ranges (fit ps e.ranges)) [] ≢ [] → b ≡ true
      go true h = refl
      go false h = absurd (h refl)

  keep_apart : Apart (keep ps e)
  unfolding keep
  keep_apart = by_test Apart (eqb e.tag 0x1d && not (is_empty e.name))
      (λ t. merge-apart (fit ps e.ranges) (all_map (fit ps e.ranges) (λ r p. p.0) (fit-fits ps e.ranges))) (λ t. tt)

  pub keep_rule : Rule ps (keep ps e) e
  unfolding tested
  keep_rule = record { kept = (down, up); apart = keep_apart; addresses = addresses }
    where
      down : keep ps e ≢ [] → (e.tag ≡ 0x1d) × (e.name ≢ []) × Any (Fits ps) e.ranges
      down h =
          let t = keep_tested h in
          let s = some-merge (fit ps e.ranges) (rw (keep_of t) at h) in
          let named = not-true (is_empty e.name) (and_right (eqb e.tag 0x1d) (not (is_empty e.name)) t) in
          let fits = (fit-any ps (Fits ps) e.ranges).0 (some-any (Fits ps) (fit ps e.ranges) (fit-fits ps e.ranges) s) in
          (eqb-true e.tag 0x1d (and_left (eqb e.tag 0x1d) (not (is_empty e.name)) t), empty-filled e.name named, any_map e.ranges (λ r p. p.1) fits)

      up : (e.tag ≡ 0x1d) × (e.name ≢ []) × Any (Fits ps) e.ranges → keep ps e ≢ []
      up h =
          let t : tested ≡ true = rw (eq-eqb e.tag 0x1d h.0, filled-empty e.name h.1) in
          let fits = (fit-any ps (Fits ps) e.ranges).1 (any_map e.ranges (λ r p. (p, p)) h.2) in
          rw (keep_of t) (merge_some (fit ps e.ranges) (any_some (Fits ps) (fit ps e.ranges) fits))

      addresses : keep ps e ≢ [] → (a : ℕ) → Holds (keep ps e) a ↔ Any (λ r. RangeHolds r a × Fits ps r) e.ranges
      addresses h a =
          let merged = merge-holds (fit ps e.ranges) a in
          let fits = fit-any ps (λ r. RangeHolds r a) e.ranges in
          rw (keep_of (keep_tested h)) (λ p. fits.0 (merged.0 p), λ p. merged.1 (fits.1 p))

  -- what is kept lies inside f, where the ranges above do
  pub keep-within : (f : AddressRange) → All (λ r. Inside r f) ps → All (λ r. Inside r f) (keep ps e)
  unfolding keep
  keep-within f h = by_test (All (λ r. Inside r f)) (eqb e.tag 0x1d && not (is_empty e.name))
      (λ t. merge-within f (fit ps e.ranges) (all_map (fit ps e.ranges) (λ r p. any_one ps (λ q a b. (omega arith, omega arith)) h p.1) (fit-fits ps e.ranges))) (λ t. tt)
