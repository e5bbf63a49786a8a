-- The tests of each field's payload, the `len` bytes of s from `start` on, say what the grammar says of it.
use mathlib.Core.Path.{◌≡◌, sym, ◌∙◌}
use mathlib.Core.List.{List}
use Prim.Native.Nat.{ℕ, ◌+◌, ◌-◌, ◌^◌, ◌≤◌, ◌<◌}
use native.Mathlib.Nat.{add-zero}
use native.Mathlib.Omega.{arith}
use native.Mathlib.Decide.{dec_le}
use lib.Dec.{leb, ltb}
use lib.ListN.{length, take, drop, length-drop}
use lib.Seq.{length-take-le}
use borrow.Author.Tests.{le-leb, lt-leb, lt-ltb, le-ltb}
use Rattle.tlv.specs.Bytes.{le_at}
use Rattle.tlv.proofs.WidthLaws.{le_at-part}

-- a sum that fits, tested with no sum
pub room-leb : (a b : ℕ) → a < 2 ^ 64 → leb b (18446744073709551615 - a) ≡ ltb (a + b) (2 ^ 64)
room-leb a b h =
    elim (dec_le b (18446744073709551615 - a)) [
      | yes k ↦ rw (le-leb b (18446744073709551615 - a) k, lt-ltb (a + b) (2 ^ 64) (omega arith))
      | no k ↦ rw (lt-leb b (18446744073709551615 - a) (omega arith), le-ltb (a + b) (2 ^ 64) (omega arith))
    ]

-- ---- the payloads

module _ (s : List ℕ) (start len : ℕ) where
  module _ (fits : start + len ≤ length s) where
    pub part_length : length (take len (drop start s)) ≡ len
    part_length = length-take-le len (drop start s) (rw length-drop (omega arith))

  -- a number that was read in the whole, where the payload has it
  pub number_at : (k j n : ℕ) → j + k ≤ len → n ≡ le_at k s (start + j) → le_at k (take len (drop start s)) j ≡ n
  number_at k j n h e = le_at-part k s start len j h ∙ sym e

  pub number-first : (k n : ℕ) → k ≤ len → n ≡ le_at k s start → le_at k (take len (drop start s)) 0 ≡ n
  number-first k n h e = number_at k 0 n (omega arith) (rw add-zero e)
