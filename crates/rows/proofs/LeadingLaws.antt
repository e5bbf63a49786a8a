-- Sorted rows: how many at the front are below an address, what holds of those and of the others, and the two steps of a search by halves.
use mathlib.Core.Path.{◌≡◌, refl, ap}
use mathlib.Core.List.{List, [], ◌∷◌}
use Prim.Native.Nat.{ℕ, zero, suc, ◌+◌, ◌-◌, ◌*◌, ◌≤◌, ◌<◌}
use native.Mathlib.Omega.{arith}
use lib.ListN.{length, drop, get_or}
use lib.Seq.{drop-nil}
use borrow.Author.Tests.{lt-ltb, le-ltb}
use Rattle.tlv.specs.Lists.{All}
use Rattle.tlv.proofs.TestLaws.{by_less}
use Rattle.tlv.proofs.ListLaws.{all_drop}
use Rattle.buffers.proofs.RecordLaws.{records-length, records-at}
use Rattle.lines.specs.Lines.{SequencedLine}
use Rattle.rows.specs.Sizes.{line_size}
use Rattle.rows.specs.Stored.{line_of, line_at, lines_of}
use Rattle.rows.specs.Sorts.{Sorted, leading}

-- ---- the rows of a list

sorted-at : (k : ℕ) (xs : List SequencedLine) (i : ℕ) (d : SequencedLine) → Sorted k xs → i < length xs → k ≤ (get_or xs i d).entry.address
sorted-at k [] i d s h = absurd (omega arith)
sorted-at k (x ∷ xs) zero d s h = s.0
sorted-at k (x ∷ xs) (suc i) d s h = let first = s.0 in omega (arith, sorted-at x.entry.address xs i d s.1 (omega arith))

module _ (a : ℕ) where
  pub leading_length : (xs : List SequencedLine) → leading a xs ≤ length xs
  unfolding leading
  leading_length [] = omega arith
  leading_length (x ∷ xs) =
      let rest = leading_length xs in
      by_less _ x.entry.address a (λ l. rw (lt-ltb x.entry.address a l) (omega arith)) (λ l. rw (le-ltb x.entry.address a l) (omega arith))

  module _ (d : SequencedLine) where
    -- a row below a is one of the leading rows, and no other is
    above : (k : ℕ) (xs : List SequencedLine) (i : ℕ) → Sorted k xs → i < length xs → (get_or xs i d).entry.address < a → i < leading a xs
    unfolding leading
    above k [] i s h g = absurd (omega arith)
    above k (x ∷ xs) zero s h g = rw (lt-ltb x.entry.address a g) (omega arith)
    above k (x ∷ xs) (suc i) s h g =
        let small : x.entry.address < a = omega (arith, sorted-at x.entry.address xs i d s.1 (omega arith)) in
        rw (lt-ltb x.entry.address a small) (omega (arith, above x.entry.address xs i s.1 (omega arith) g))

    not-above : (xs : List SequencedLine) (i : ℕ) → i < length xs → a ≤ (get_or xs i d).entry.address → leading a xs ≤ i
    unfolding leading
    not-above [] i h g = absurd (omega arith)
    not-above (x ∷ xs) zero h g = rw (le-ltb x.entry.address a g) (omega arith)
    not-above (x ∷ xs) (suc i) h g =
        let rest = not-above xs i (omega arith) g in
        by_less _ x.entry.address a (λ l. rw (lt-ltb x.entry.address a l) (omega arith)) (λ l. rw (le-ltb x.entry.address a l) (omega arith))

  pub sorted_all : (k : ℕ) (xs : List SequencedLine) → Sorted k xs → a ≤ k → All (λ x. a ≤ x.entry.address) xs
  sorted_all k [] s h = tt
  sorted_all k (x ∷ xs) s h = let first = s.0 in (omega arith, sorted_all x.entry.address xs s.1 (omega arith))

  -- the rows past the leading ones are not below a
  pub all_from : (k : ℕ) (xs : List SequencedLine) (i : ℕ) → Sorted k xs → leading a xs ≤ i → All (λ x. a ≤ x.entry.address) (drop i xs)
  unfolding leading
  all_from k [] i s h = rw drop-nil tt
  all_from k (x ∷ xs) i s h =
      by_less _ x.entry.address a
      (λ l. below i l (rw (lt-ltb x.entry.address a l) at h) (λ j. all_from x.entry.address xs j s.1))
      (λ l. all_drop (λ x. a ≤ x.entry.address) i (x ∷ xs) (l, sorted_all x.entry.address xs s.1 l))
    where
      below : (i : ℕ) → x.entry.address < a → suc (leading a xs) ≤ i → ((j : ℕ) → leading a xs ≤ j → All (λ x. a ≤ x.entry.address) (drop j xs)) → All (λ x. a ≤ x.entry.address) (drop i (x ∷ xs))
      below zero l g f = absurd (omega arith)
      below (suc i) l g f = f i (omega arith)

-- ---- the rows of a table

module _ (w : List ℕ) (base n a : ℕ) where
  pub leading-most : leading a (lines_of w base n) ≤ n
  unfolding lines_of
  leading-most = omega (arith, leading_length a (lines_of w base n), records-length line_of line_size w base n)

  module _ (i : ℕ) (h : i < n) where
    address_is : (get_or (lines_of w base n) i (line_of [])).entry.address ≡ (line_at w (base + i * line_size)).entry.address
    unfolding lines_of line_at
    address_is = ap (λ (x : SequencedLine). x.entry.address) (records-at line_of line_size w base n i (line_of []) h)

    in_table : i < length (lines_of w base n)
    unfolding lines_of
    in_table = rw (records-length line_of line_size w base n) h

    -- a turn of the search: row i has the address v
    module _ (v : ℕ) (is : v ≡ (line_at w (base + i * line_size)).entry.address) where
      pub go_up : Sorted 0 (lines_of w base n) → v < a → i + 1 ≤ leading a (lines_of w base n)
      go_up s l = omega (arith, above a (line_of []) 0 (lines_of w base n) i s in_table (rw (address_is, ← is) l))

      pub go_down : a ≤ v → leading a (lines_of w base n) ≤ i
      go_down l = not-above a (line_of []) (lines_of w base n) i in_table (rw (address_is, ← is) l)

    -- what the place of a row says of its address
    pub row_below : i < leading a (lines_of w base n) → (line_at w (base + i * line_size)).entry.address < a
    row_below l = by_less _ (line_at w (base + i * line_size)).entry.address a (λ g. g) (λ g. absurd (omega (arith, go_down _ refl g)))

  -- where the rows turn from below the address to at least it is how many are below
  pub leading-turn : Sorted 0 (lines_of w base n) → (r : ℕ) → r ≤ n
      → (0 < r → (line_at w (base + (r - 1) * line_size)).entry.address < a)
      → (r < n → a ≤ (line_at w (base + r * line_size)).entry.address)
      → r ≡ leading a (lines_of w base n)
  leading-turn s r h passed next = omega (arith, least, most)
    where
      least : r ≤ leading a (lines_of w base n)
      least = by_less _ 0 r (λ l. omega (arith, go_up (r - 1) (omega arith) _ refl s (passed l))) (λ l. omega arith)

      most : leading a (lines_of w base n) ≤ r
      most = by_less _ r n (λ l. go_down r l _ refl (next l)) (λ l. omega (arith, leading-most))
