-- The ranges of a list: how many they are, how large their addresses, and one entry at a time.
use mathlib.Core.Path.{◌≡◌, refl, ap, ◌∙◌}
use mathlib.Core.Bool.{◌&&◌}
use mathlib.Core.List.{List, [], ◌∷◌}
use mathlib.Core.Option.{Option, none, some}
use Prim.Native.Nat.{ℕ, zero, suc, ◌+◌, ◌*◌, ◌≤◌}
use native.Mathlib.Omega.{arith}
use borrow.Author.Tests.{leb-true}
use lib.Dec.{leb, eqb}
use lib.ListN.{length, drop, length-drop}
use Rattle.tlv.specs.Outcome.{Outcome, refused, done, ◌>>=◌}
use Rattle.tlv.specs.Lists.{All}
use Rattle.tlv.specs.Model.{EntryRange, RangeList}
use Rattle.tlv.proofs.TestLaws.{by_test, and_left, and_right}
use Rattle.tlv.proofs.RefusalLaws.{RefusesIn, never, refuses-wider, refusing}
use Rattle.lines.proofs.Refusals.{refuses-uleb}
use Rattle.rnglists.specs.Standard.{Slot, nothing, number, address, Slots, slots_of, RawEntry, Meaning, ends, base, bounded}
use Rattle.rnglists.specs.RangeLists.{read_operand, read_operands, read_entry, address_at, largest, bounded_by, offset_pair, meaning_of, ListRanges, ranges_after, ranges_from, ranges_within, ranges_in, list_ranges}
use Rattle.rnglists.proofs.EntryLaws.{entry-shorter, bounded-size}

-- ---- faults: 7, 10, 11 and 23 of an entry's bytes, 24 and 25 of what it says

refuses-slot : (size : ℕ) (x : Slot) (s : List ℕ) → RefusesIn 7 23 (read_operand size x s)
unfolding read_operand
refuses-slot size nothing s = never
refuses-slot size number s = refuses-wider 7 12 (omega arith) (omega arith) (refuses-uleb s)
refuses-slot size address s = search refusing

pub refuses-entry : (size : ℕ) (s : List ℕ) → RefusesIn 7 23 (read_entry size s)
unfolding read_entry
refuses-entry size [] = search refusing
refuses-entry size (k ∷ s) = go (slots_of k)
  where
    go : (o : Option Slots) → RefusesIn 7 23 (read_operands size k s o)
    go none = search refusing
    go (some x) = search (refusing, refuses-slot)

refuses-address : (size : ℕ) (table : List ℕ) (i : ℕ) → RefusesIn 24 25 (address_at size table i)
unfolding address_at
refuses-address size table i = search refusing

refuses-bounded : (size a b : ℕ) → RefusesIn 24 25 (bounded_by size a b)
unfolding bounded_by
refuses-bounded size a b = search refusing

pub refuses-meaning : (size : ℕ) (table : List ℕ) (from : ℕ) (e : RawEntry) → RefusesIn 24 25 (meaning_of size table from e)
unfolding meaning_of offset_pair
refuses-meaning size table from e = search (refusing, refuses-address, refuses-bounded) depth 12

-- ---- how many: three bytes for each

few-within : (k size : ℕ) (table : List ℕ) → 1 ≤ size → (from : ℕ) (s : List ℕ) → 3 * length (ranges_within k size table from s).given ≤ length s
unfolding ranges_within
few-within zero size table h from s = omega arith
few-within (suc k) size table h from s = go (λ b t. few-within k size table h b t) (read_entry size s) refl
  where
    more : ((b : ℕ) (t : List ℕ) → 3 * length (ranges_within k size table b t).given ≤ length t) → (e : RawEntry) → read_entry size s ≡ done e → (m : Outcome (Meaning EntryRange)) → meaning_of size table from e ≡ m
        → 3 * length (ranges_after (λ b. ranges_within k size table b e.rest) from m).given ≤ length s
    more ih e f (refused n) g = omega arith
    more ih e f (done ends) g = omega arith
    more ih e f (done (base b)) g = omega (arith, ih b e.rest, entry-shorter size s e f)
    more ih e f (done (bounded r)) g = omega (arith, ih from e.rest, bounded-size size table from s e r h f g)

    go : ((b : ℕ) (t : List ℕ) → 3 * length (ranges_within k size table b t).given ≤ length t) → (o : Outcome RawEntry) → read_entry size s ≡ o → 3 * length (ranges_from (ranges_within k size table) size table from o).given ≤ length s
    go ih (refused n) f = omega arith
    go ih (done e) f = more ih e f (meaning_of size table from e) refl

-- a list of n bytes gives at most a third of n ranges
pub list-few : (lists table : List ℕ) (l : RangeList) → 1 ≤ l.size → 3 * length (list_ranges lists table l).given ≤ length lists
unfolding list_ranges ranges_in
list-few lists table l h =
    omega (arith, few-within (length (drop l.offset lists)) l.size (drop l.addresses table) h l.base (drop l.offset lists), length-drop l.offset lists)

-- ---- one entry at a time: the fuel does not matter where it is enough

module _ (size : ℕ) (table : List ℕ) where
  fuel : (k j : ℕ) (from : ℕ) (s : List ℕ) → length s ≤ k → length s ≤ j → ranges_within k size table from s ≡ ranges_within j size table from s
  unfolding ranges_within read_entry
  fuel zero zero from s a b = refl
  fuel zero (suc j) from [] a b = refl
  fuel zero (suc j) from (x ∷ s) a b = absurd (omega arith)
  fuel (suc k) zero from [] a b = refl
  fuel (suc k) zero from (x ∷ s) a b = absurd (omega arith)
  fuel (suc k) (suc j) from s a b = go (λ c t. fuel k j c t) (read_entry size s) refl
    where
      more : ((c : ℕ) (t : List ℕ) → length t ≤ k → length t ≤ j → ranges_within k size table c t ≡ ranges_within j size table c t) → (e : RawEntry) → read_entry size s ≡ done e → (m : Outcome (Meaning EntryRange))
          → ranges_after (λ b. ranges_within k size table b e.rest) from m ≡ ranges_after (λ b. ranges_within j size table b e.rest) from m
      more ih e f (refused n) = refl
      more ih e f (done ends) = refl
      more ih e f (done (base c)) = ih c e.rest (omega (arith, entry-shorter size s e f)) (omega (arith, entry-shorter size s e f))
      more ih e f (done (bounded r)) =
          ap (λ (l : ListRanges). record { given = r ∷ l.given; fault = l.fault }) (ih from e.rest (omega (arith, entry-shorter size s e f)) (omega (arith, entry-shorter size s e f)))

      go : ((c : ℕ) (t : List ℕ) → length t ≤ k → length t ≤ j → ranges_within k size table c t ≡ ranges_within j size table c t) → (o : Outcome RawEntry) → read_entry size s ≡ o → ranges_from (ranges_within k size table) size table from o ≡ ranges_from (ranges_within j size table) size table from o
      go ih (refused n) f = refl
      go ih (done e) f = more ih e f (meaning_of size table from e)

  -- a list is its first entry and the list behind it: what the code's turn does
  pub ranges-step : (from : ℕ) (s : List ℕ) → ranges_in size table from s ≡ ranges_from (ranges_in size table) size table from (read_entry size s)
  unfolding ranges_in ranges_within
  ranges-step from s = fuel (length s) (suc (length s)) from s (omega arith) (omega arith) ∙ go (read_entry size s) refl
    where
      more : (e : RawEntry) → read_entry size s ≡ done e → (m : Outcome (Meaning EntryRange))
          → ranges_after (λ b. ranges_within (length s) size table b e.rest) from m ≡ ranges_after (λ b. ranges_within (length e.rest) size table b e.rest) from m
      more e f (refused n) = refl
      more e f (done ends) = refl
      more e f (done (base c)) = fuel (length s) (length e.rest) c e.rest (omega (arith, entry-shorter size s e f)) (omega arith)
      more e f (done (bounded r)) =
          ap (λ (l : ListRanges). record { given = r ∷ l.given; fault = l.fault }) (fuel (length s) (length e.rest) from e.rest (omega (arith, entry-shorter size s e f)) (omega arith))

      go : (o : Outcome RawEntry) → read_entry size s ≡ o
          → ranges_from (ranges_within (length s) size table) size table from o ≡ ranges_from (λ b t. ranges_within (length t) size table b t) size table from o
      go (refused n) f = refl
      go (done e) f = more e f (meaning_of size table from e)

-- ---- how large: no address is past the largest of its size

abbrev pub Fitting : ℕ → EntryRange → Type 0
Fitting size r = (r.range.start ≤ largest size) × (r.range.end ≤ largest size)

-- what is so of a range that an entry gives
abbrev Given : ℕ → Outcome (Meaning EntryRange) → Type 0
Given size (refused n) = Unit {0}
Given size (done ends) = Unit {0}
Given size (done (base b)) = Unit {0}
Given size (done (bounded r)) = Fitting size r

given-bounded : (size a b : ℕ) → Given size (bounded_by size a b)
unfolding bounded_by
given-bounded size a b =
    by_test (Given size) (eqb a (largest size)) (λ e. (omega arith, omega arith)) (λ e.
    by_test (Given size) (leb a (largest size) && leb b (largest size))
    (λ f. (leb-true a (largest size) (and_left (leb a (largest size)) (leb b (largest size)) f), leb-true b (largest size) (and_right (leb a (largest size)) (leb b (largest size)) f)))
    (λ f. tt))

given-bind : (size : ℕ) (o : Outcome ℕ) (f : ℕ → Outcome (Meaning EntryRange)) → ((x : ℕ) → Given size (f x)) → Given size (o >>= f)
unfolding ◌>>=◌
given-bind size (refused n) f h = tt
given-bind size (done x) f h = h x

given-fitting : (size : ℕ) (table : List ℕ) (from : ℕ) (e : RawEntry) → Given size (meaning_of size table from e)
unfolding meaning_of offset_pair
given-fitting size table from e =
    let k = e.kind in
    let a = e.first in
    let b = e.second in
    by_test (Given size) (eqb k 0) (λ z. tt) (λ z.
    by_test (Given size) (eqb k 1) (λ z. given-bind size (address_at size table a) _ (λ x. tt)) (λ z.
    by_test (Given size) (eqb k 2) (λ z. given-bind size (address_at size table a) _ (λ x. given-bind size (address_at size table b) _ (λ y. given-bounded size x y))) (λ z.
    by_test (Given size) (eqb k 3) (λ z. given-bind size (address_at size table a) _ (λ x. given-bounded size x (x + b))) (λ z.
    by_test (Given size) (eqb k 4) (λ z. by_test (Given size) (eqb from (largest size)) (λ w. (omega arith, omega arith)) (λ w. given-bounded size (from + a) (from + b))) (λ z.
    by_test (Given size) (eqb k 5) (λ z. tt) (λ z.
    by_test (Given size) (eqb k 6) (λ z. given-bounded size a b) (λ z.
    given-bounded size a (a + b))))))))

fitting-within : (k size : ℕ) (table : List ℕ) (from : ℕ) (s : List ℕ) → All (Fitting size) (ranges_within k size table from s).given
unfolding ranges_within
fitting-within zero size table from s = tt
fitting-within (suc k) size table from s = go (λ b t. fitting-within k size table b t) (read_entry size s)
  where
    more : ((b : ℕ) (t : List ℕ) → All (Fitting size) (ranges_within k size table b t).given) → (t : List ℕ) (m : Outcome (Meaning EntryRange)) → Given size m
        → All (Fitting size) (ranges_after (λ b. ranges_within k size table b t) from m).given
    more ih t (refused n) g = tt
    more ih t (done ends) g = tt
    more ih t (done (base b)) g = ih b t
    more ih t (done (bounded r)) g = (g, ih from t)

    go : ((b : ℕ) (t : List ℕ) → All (Fitting size) (ranges_within k size table b t).given) → (o : Outcome RawEntry)
        → All (Fitting size) (ranges_from (ranges_within k size table) size table from o).given
    go ih (refused n) = tt
    go ih (done e) = more ih e.rest (meaning_of size table from e) (given-fitting size table from e)

pub list-fitting : (lists table : List ℕ) (l : RangeList) → All (Fitting l.size) (list_ranges lists table l).given
unfolding list_ranges ranges_in
list-fitting lists table l = fitting-within (length (drop l.offset lists)) l.size (drop l.addresses table) l.base (drop l.offset lists)
