-- Contract. Tables of records of one size in a list of bytes (document 01: the work slice), and what the functions that write there promise.
use Rattle.std.specs.Prelude.{◌≡◌, ◌⊎◌, List, [], ◌∷◌, ◌++◌, ℕ, zero, suc, ◌+◌, ◌-◌, ◌*◌, ◌≤◌, take, drop, replicate}
use Rattle.tlv.specs.declared.model.AddressRange.{AddressRange}
use Rattle.tlv.specs.Bytes.{bytes_of, le_at}
use Rattle.tlv.specs.Model.{range_of}
use Rattle.buffers.specs.Buffer.{overlay}

-- the k bytes of w from place p on
unfoldable pub chunk : List ℕ → ℕ → ℕ → List ℕ
chunk w p k = take k (drop p w)

-- f 0, f 1, .., n of them
unfoldable pub tab : {A : Type 0} → ℕ → (ℕ → A) → List A
tab zero f = []
tab (suc n) f = f zero ∷ tab n (λ i. f (suc i))

-- the n records of a table, of size bytes each, that stand in w from base on, each read by f
unfoldable pub records : {A : Type 0} → (List ℕ → A) → ℕ → List ℕ → ℕ → ℕ → List A
records f size w base n = tab n (λ i. f (chunk w (base + i * size) size))

-- w with the bytes from place `from` to below place `to` set to 0
unfoldable pub zeroed : List ℕ → ℕ → ℕ → List ℕ
zeroed w from to = take from w ++ replicate (to - from) 0 ++ drop to w

-- ---- what stays

-- the k bytes from p on and the m bytes from q on have no byte in common
-- Stays a clause: it is of two stretches, which no value holds together.
abbrev pub Apart : ℕ → ℕ → ℕ → ℕ → Type 0
Apart p k q m = (p + k ≤ q) ⊎ (q + m ≤ p)

-- w' is w but for the m bytes from p on: every chunk apart from those is the same
pub record Kept (w w' : List ℕ) (p m : ℕ) : Type 0 where
  pub same : (q k : ℕ) → Apart q k p m → chunk w' q k ≡ chunk w q k

-- the k bytes from q on have no byte in common with any of the stretches, each of which is where it begins and how long it is
abbrev pub Clear : ℕ → ℕ → List (ℕ × ℕ) → Type 0
Clear q k [] = Unit {0}
Clear q k (r ∷ rs) = Apart q k r.0 r.1 × Clear q k rs

-- w' is w but for the bytes of some stretches
pub record KeptBut (w w' : List ℕ) (rs : List (ℕ × ℕ)) : Type 0 where
  pub same : (q k : ℕ) → Clear q k rs → chunk w' q k ≡ chunk w q k

-- ---- what the writes promise

-- the number v was written in the k bytes at p
pub record Wrote (w w' : List ℕ) (p k v : ℕ) : Type 0 where
  pub bytes : w' ≡ overlay p (bytes_of k v) w
  pub value : le_at k w' p ≡ v
  pub rest : Kept w w' p k

-- a range was written at p
pub record PutRange (w w' : List ℕ) (p : ℕ) (r : AddressRange) : Type 0 where
  pub value : range_of (chunk w' p 16) ≡ r
  pub rest : Kept w w' p 16

-- the size bytes at `from` were copied to `to`
pub record CopiedBytes (w w' : List ℕ) (from to size : ℕ) : Type 0 where
  pub bytes : w' ≡ overlay to (chunk w from size) w
  pub same : chunk w' to size ≡ chunk w from size
  pub rest : Kept w w' to size

-- the bytes from `from` to below `to` were set to 0
pub record Zeroed (w w' : List ℕ) (from to : ℕ) : Type 0 where
  pub bytes : w' ≡ zeroed w from to
  pub same : chunk w' from (to - from) ≡ replicate (to - from) 0
  pub rest : Kept w w' from (to - from)
