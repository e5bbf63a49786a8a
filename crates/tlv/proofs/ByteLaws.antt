-- What is written as the bytes of a number is read back as that number, also behind other bytes; and how large a number of bytes is.
use mathlib.Core.Path.{◌≡◌, refl, ap}
use mathlib.Core.List.{List, [], ◌∷◌, ◌++◌, append-nil}
use Prim.Native.Nat.{ℕ, zero, suc, ◌+◌, ◌*◌, ◌/◌, ◌%◌, ◌^◌, ◌<◌}
use native.Mathlib.Nat.{pow-succ'}
use native.Mathlib.Omega.{arith}
use lib.ListN.{length, take, drop}
use lib.Seq.{take_at, drop-append-add}
use Rattle.tlv.specs.Bytes.{Bytes, le, bytes_of, le_at}
use Rattle.tlv.proofs.ListLaws.{all_drop}

-- a number that fits k bytes is the number of its k bytes
pub le-bytes_of : (k n : ℕ) → n < 256 ^ k → le (bytes_of k n) ≡ n
unfolding bytes_of
le-bytes_of zero n h = omega arith
le-bytes_of (suc k) n h =
    let small : n / 256 < 256 ^ k = omega (arith, pow-succ' 256 k) in
    rw (le-bytes_of k (n / 256) small) (omega arith)

-- and bytes are those of the number that they are
pub bytes_of-le : (bs : List ℕ) → Bytes bs → bytes_of (length bs) (le bs) ≡ bs
unfolding bytes_of
bytes_of-le [] h = refl
bytes_of-le (b ∷ bs) h =
    let small : b < 256 = h.0 in
    let low : (b + 256 * le bs) % 256 ≡ b = omega arith in
    let high : (b + 256 * le bs) / 256 ≡ le bs = omega arith in
    rw (low, high, bytes_of-le bs h.1)

pub length-bytes_of : (k n : ℕ) → length (bytes_of k n) ≡ k
unfolding bytes_of
length-bytes_of zero n = refl
length-bytes_of (suc k) n = ap suc (length-bytes_of k (n / 256))

-- a number's bytes at the start, whatever follows
pub le_at-first : (k n : ℕ) (rest : List ℕ) → n < 256 ^ k → le_at k (bytes_of k n ++ rest) 0 ≡ n
unfolding le_at
le_at-first k n rest h = rw (take_at (bytes_of k n) rest k (length-bytes_of k n)) (le-bytes_of k n h)

-- the same where nothing follows
pub le_at-only : (k n : ℕ) → n < 256 ^ k → le_at k (bytes_of k n) 0 ≡ n
le_at-only k n h = rw append-nil at (le_at-first k n [] h)

-- stepping over a number's bytes
pub drop-bytes_of : (k n p : ℕ) (rest : List ℕ) → drop (k + p) (bytes_of k n ++ rest) ≡ drop p rest
drop-bytes_of k n p rest = rw length-bytes_of at (drop-append-add (bytes_of k n) rest p)

pub le_at-next : (j k n p : ℕ) (rest : List ℕ) → le_at j (bytes_of k n ++ rest) (k + p) ≡ le_at j rest p
unfolding le_at
le_at-next j k n p rest = rw (drop-bytes_of k n p rest)

-- the byte at the start, and what follows it
pub le_at-byte : (b : ℕ) (rest : List ℕ) → le_at 1 (b ∷ rest) 0 ≡ b
unfolding le_at
le_at-byte b rest = omega arith

pub le_at-tail : (k b p : ℕ) (rest : List ℕ) → le_at k (b ∷ rest) (suc p) ≡ le_at k rest p
unfolding le_at
le_at-tail k b p rest = refl

-- ---- how large a number is

le-take_bound : (k : ℕ) (s : List ℕ) → Bytes s → le (take k s) < 256 ^ k
le-take_bound zero s h = omega arith
le-take_bound (suc k) [] h = omega (arith, pow-succ' 256 k, le-take_bound k [] tt)
le-take_bound (suc k) (b ∷ s) h = omega (arith, pow-succ' 256 k, h.0, le-take_bound k s h.1)

-- a number of k bytes is below 256 ^ k
pub le_at-bound : (k : ℕ) (s : List ℕ) (p : ℕ) → Bytes s → le_at k s p < 256 ^ k
unfolding le_at
le_at-bound k s p h = le-take_bound k (drop p s) (all_drop (λ b. b < 256) p s h)
