-- A number of many bytes is made of numbers of few: how wide numbers are read and written by halves, and numbers within a part of a byte string.
--
use mathlib.Core.Path.{◌≡◌, refl, sym, ap}
use mathlib.Core.List.{List, [], ◌∷◌, ◌++◌}
use Prim.Native.Nat.{ℕ, zero, suc, ◌+◌, ◌-◌, ◌*◌, ◌/◌, ◌%◌, ◌^◌, ◌<◌, ◌≤◌}
use native.Mathlib.Nat.{pow-succ', pow-suc, mul_assoc, mul-add, pow-zero, zero-add, suc-add, div-one, div-div-eq-div-mul, sub-zero, zero-sub, suc-sub-suc}
use native.Mathlib.Omega.{arith}
use lib.Dec.{lit<}
use lib.Arith.{mod-mul}
use lib.ListN.{length, take, drop, get_or, length-drop}
use lib.Seq.{drop-cons, drop-drop, take-add, length-take-le, take-take, take-nil}
use Rattle.tlv.specs.Bytes.{le, bytes_of, le_at}

-- ---- reading

pub le-append : (a b : List ℕ) → le (a ++ b) ≡ le a + 256 ^ length a * le b
le-append [] b = omega arith
le-append (x ∷ a) b = rw (le-append a b, pow-succ', mul-add, mul_assoc) (omega arith)

-- two neighbouring numbers are one
pub le_at-add : (j k : ℕ) (s : List ℕ) (p : ℕ) → p + j ≤ length s → le_at (j + k) s p ≡ le_at j s p + 256 ^ j * le_at k s (p + j)
unfolding le_at
le_at-add j k s p h =
    let full : length (take j (drop p s)) ≡ j = length-take-le j (drop p s) (rw length-drop (omega arith)) in
    rw (take-add j k (drop p s), le-append, full, drop-drop)

-- a number of one byte is that byte
pub le_at-one : (s : List ℕ) (p : ℕ) → p < length s → le_at 1 s p ≡ get_or s p 0
unfolding le_at
le_at-one s p h = rw (drop-cons s p 0) (omega arith)

-- two halves that were read, put together: what a read of j + k bytes returns
pub join : (j k : ℕ) (s : List ℕ) (p a b : ℕ) → p + j ≤ length s → a ≡ le_at j s p → b ≡ le_at k s (p + j) → a + b * 256 ^ j ≡ le_at (j + k) s p
join j k s p a b h ea eb = rw (le_at-add j k s p h, ea, eb) (omega arith)

-- ---- writing

256-pos : (j : ℕ) → 0 < 256 ^ j
256-pos zero = omega arith
256-pos (suc j) = omega (arith, pow-succ' 256 j, 256-pos j)

-- the low bytes of a number are those of what is left of it below
pub bytes_of-low : (j n : ℕ) → bytes_of j (n % 256 ^ j) ≡ bytes_of j n
unfolding bytes_of
bytes_of-low zero n = refl
bytes_of-low (suc j) n =
    let e : n % 256 ^ suc j ≡ n / 256 % 256 ^ j * 256 + n % 256 = rw pow-suc (mod-mul n (256-pos j) (lit< tt)) in
    let head : n % 256 ^ suc j % 256 ≡ n % 256 = omega arith in
    let tail : n % 256 ^ suc j / 256 ≡ n / 256 % 256 ^ j = omega arith in
    rw (head, tail, bytes_of-low j (n / 256))

bytes_of-append : (j k n : ℕ) → bytes_of (j + k) n ≡ bytes_of j n ++ bytes_of k (n / 256 ^ j)
unfolding bytes_of
bytes_of-append zero k n = rw (zero-add, pow-zero, div-one)
bytes_of-append (suc j) k n = rw (suc-add j k, pow-succ', ← div-div-eq-div-mul) (ap (λ (l : List ℕ). n % 256 ∷ l) (bytes_of-append j k (n / 256)))

-- a number's bytes are its low half's and then its high half's
pub bytes_of-add : (j k n : ℕ) → bytes_of (j + k) n ≡ bytes_of j (n % 256 ^ j) ++ bytes_of k (n / 256 ^ j)
bytes_of-add j k n = rw bytes_of-low (bytes_of-append j k n)

-- ---- a part of a byte string: the n bytes of s from place p on

pub drop_take : {A : Type 0} (j n : ℕ) (l : List A) → drop j (take n l) ≡ take (n - j) (drop j l)
drop_take zero n l = rw sub-zero
drop_take (suc j) zero l = rw zero-sub
drop_take (suc j) (suc n) [] = sym (take-nil (suc n - suc j))
drop_take (suc j) (suc n) (x ∷ l) = rw suc-sub-suc (drop_take j n l)

-- a part without its first j bytes is the part from j on
pub drop_part : {A : Type 0} (s : List A) (p n j : ℕ) → drop j (take n (drop p s)) ≡ take (n - j) (drop (p + j) s)
drop_part s p n j = rw (drop_take j n (drop p s), drop-drop j p s)

-- a number in a part is the number in the whole
pub le_at-part : (k : ℕ) (s : List ℕ) (p n j : ℕ) → j + k ≤ n → le_at k (take n (drop p s)) j ≡ le_at k s (p + j)
unfolding le_at
le_at-part k s p n j h = rw (drop_part s p n j, take-take k (n - j) (drop (p + j) s) (omega arith))
