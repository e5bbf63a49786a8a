-- What the import needs of an entry's ranges, wherever they come from: addresses of 64 bits, a reason that fits, a refusal's number.
use mathlib.Core.Path.{◌≡◌, refl}
use mathlib.Core.Logic.{◌⊎◌, inl, inr}
use mathlib.Core.Bool.{false, true≢false}
use mathlib.Core.List.{List, [], ◌∷◌}
use mathlib.Core.Option.{Option, none, some}
use Prim.Native.Nat.{ℕ, ◌≤◌}
use native.Mathlib.Omega.{arith}
use lib.Dec.{ltb, eqb}
use lib.ListN.{drop}
use Rattle.tlv.specs.declared.model.AddressRange.{AddressRange}
use Rattle.tlv.specs.Lists.{All, is_none}
use Rattle.tlv.specs.Model.{EntryRange, RangeList, Entry}
use Rattle.tlv.specs.Accepted.{Small, Given, FailureAccepted, ListAccepted, EntryAccepted}
use Rattle.tlv.proofs.TestLaws.{by_test}
use Rattle.rnglists.specs.RangeLists.{largest, ListRanges, list_ranges, decimal, failure_by, die_ranges_by}
use Rattle.rnglists.specs.Conforms.{ListBeside, whole, cut, limit}
use Rattle.rnglists.proofs.RangeListLaws.{Fitting, list-fitting}
use Rattle.rnglists.proofs.Conforms.{lists}

-- ---- faults: 7 to 11 and 23 to 25, where there is one

abbrev pub FaultNumber : ℕ → Type 0
FaultNumber n = ((7 ≤ n) × (n ≤ 11)) ⊎ ((23 ≤ n) × (n ≤ 25))

beside-fault : {size : ℕ} {l : ListRanges} {o : Option (List AddressRange)} → ListBeside size l o → (l.fault ≡ 0) ⊎ FaultNumber l.fault
beside-fault (whole q) = inl refl
beside-fault (cut (inl e)) = inr (inl (omega arith, omega arith))
beside-fault (cut (inr (inl e))) = inr (inr (omega arith, omega arith))
beside-fault (cut (inr (inr e))) = inr (inr (omega arith, omega arith))
beside-fault (limit (inl e)) = inr (inl (omega arith, omega arith))
beside-fault (limit (inr (inl e))) = inr (inl (omega arith, omega arith))
beside-fault (limit (inr (inr e))) = inr (inr (omega arith, omega arith))

pub list-fault : (sections table : List ℕ) (l : RangeList) → ((list_ranges sections table l).fault ≡ 0) ⊎ FaultNumber (list_ranges sections table l).fault
unfolding list_ranges
list-fault sections table l = beside-fault (lists l.size (drop l.addresses table) l.base (drop l.offset sections))

-- ---- addresses

fitting-small : (size : ℕ) → (size ≡ 4) ⊎ (size ≡ 8) → (rs : List EntryRange) → All (Fitting size) rs → All (λ r. Small r.range) rs
unfolding largest
fitting-small size h [] k = tt
fitting-small size (inl e) (r ∷ rs) k = ((omega (arith, rw e at k.0.0), omega (arith, rw e at k.0.1)), fitting-small size (inl e) rs k.1)
fitting-small size (inr e) (r ∷ rs) k = ((omega (arith, rw e at k.0.0), omega (arith, rw e at k.0.1)), fitting-small size (inr e) rs k.1)

module _ (sections table : List ℕ) {n : ℕ} (e : Entry) (accepted : EntryAccepted n e) where
  pub die-small : All (λ r. Small r.range) (die_ranges_by sections table e e.list).given
  die-small = go e.list accepted.list
    where
      go : (o : Option RangeList) → Given ListAccepted o → All (λ r. Small r.range) (die_ranges_by sections table e o).given
      go none h = accepted.ranges
      go (some l) h = fitting-small l.size h (list_ranges sections table l).given (list-fitting sections table l)

  -- ---- reasons

  decimal-bytes : (k : ℕ) → k ≤ 25 → FailureAccepted (record { stage = 1; reason = decimal k })
  unfolding decimal
  decimal-bytes k h =
      by_test (λ s. FailureAccepted (record { stage = 1; reason = s })) (ltb k 10)
      (λ t. record { bytes = (omega arith, tt); short = omega arith })
      (λ t. record { bytes = (omega arith, (omega arith, tt)); short = omega arith })

  pub die-failure : Given FailureAccepted (die_ranges_by sections table e e.list).failure
  die-failure = go e.list
    where
      small : (k : ℕ) → (k ≡ 0) ⊎ FaultNumber k → k ≤ 25
      small k (inl h) = omega arith
      small k (inr (inl h)) = omega (arith, h.1)
      small k (inr (inr h)) = h.1

      go : (o : Option RangeList) → Given FailureAccepted (die_ranges_by sections table e o).failure
      go none = accepted.failure
      go (some l) =
          let k = (list_ranges sections table l).fault in
          by_test (Given FailureAccepted) (eqb k 0) (λ t. tt) (λ t. decimal-bytes k (small k (list-fault sections table l)))

-- ---- refusals: 6, or a list's fault

-- where reading failed
pub die-refusal : (sections table : List ℕ) (e : Entry) → is_none (die_ranges_by sections table e e.list).failure ≡ false
    → ((die_ranges_by sections table e e.list).refusal ≡ 6) ⊎ FaultNumber (die_ranges_by sections table e e.list).refusal
die-refusal sections table e = go e.list
  where
    known : (k : ℕ) → (k ≡ 0) ⊎ FaultNumber k → is_none (failure_by k) ≡ false → FaultNumber k
    known k (inl z) h = absurd (true≢false (rw z at h))
    known k (inr z) h = z

    go : (o : Option RangeList) → is_none (die_ranges_by sections table e o).failure ≡ false
        → ((die_ranges_by sections table e o).refusal ≡ 6) ⊎ FaultNumber (die_ranges_by sections table e o).refusal
    go none h = inl refl
    go (some l) h = inr (known (list_ranges sections table l).fault (list-fault sections table l) h)
