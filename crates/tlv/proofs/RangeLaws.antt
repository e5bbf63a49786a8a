-- A range that is read at a place: it is that of the 16 bytes there, and of all that stands from there on.
use mathlib.Core.Path.{◌≡◌}
use mathlib.Core.List.{List}
use Prim.Native.Nat.{ℕ, ◌+◌}
use native.Mathlib.Nat.{add-zero}
use native.Mathlib.Omega.{arith}
use lib.ListN.{take, drop}
use lib.Seq.{drop-drop}
use Rattle.tlv.specs.Bytes.{le_at}
use Rattle.tlv.specs.Model.{range_of}
use Rattle.tlv.proofs.WidthLaws.{le_at-part}

-- a number in what stands from a place on is the number in the whole
le_at-drop : (k : ℕ) (s : List ℕ) (p j : ℕ) → le_at k (drop p s) j ≡ le_at k s (p + j)
unfolding le_at
le_at-drop k s p j = rw (drop-drop j p s)

pub range_part : {a b : ℕ} (s : List ℕ) (p : ℕ) → a ≡ le_at 8 s p → b ≡ le_at 8 s (p + 8) → record { start = a; end = b } ≡ range_of (take 16 (drop p s))
unfolding range_of
range_part s p ea eb = rw (ea, eb, le_at-part 8 s p 16 0 (omega arith), le_at-part 8 s p 16 8 (omega arith), add-zero)

pub range_rest : {a b : ℕ} (s : List ℕ) (p : ℕ) → a ≡ le_at 8 s p → b ≡ le_at 8 s (p + 8) → record { start = a; end = b } ≡ range_of (drop p s)
unfolding range_of
range_rest s p ea eb = rw (ea, eb, le_at-drop 8 s p 0, le_at-drop 8 s p 8, add-zero)
