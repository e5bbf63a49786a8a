-- Definition. Numbers in bytes, lowest byte first (document 01: "Numbers in layouts are little-endian").
use Rattle.std.specs.Prelude.{List, [], ◌∷◌, ℕ, zero, suc, ◌+◌, ◌*◌, ◌/◌, ◌%◌, ◌<◌, take, drop, get_or}
use Rattle.tlv.specs.Lists.{All}

-- what a slice of bytes is, as a list of numbers
abbrev pub Bytes : List ℕ → Type 0
Bytes s = All (λ b. b < 256) s

-- the same as a fact with at most one proof, as a ghost field has to be
abbrev pub AreBytes : List ℕ → Type 0
AreBytes s = (k : ℕ) → get_or s k 0 < 256

-- the number whose bytes are bs
abbrev pub le : List ℕ → ℕ
le [] = 0
le (b ∷ bs) = b + 256 * le bs

-- the k bytes of a number
unfoldable pub bytes_of : ℕ → ℕ → List ℕ
bytes_of zero n = []
bytes_of (suc k) n = n % 256 ∷ bytes_of k (n / 256)

-- the number in the k bytes of s from place p on
unfoldable pub le_at : ℕ → List ℕ → ℕ → ℕ
le_at k s p = le (take k (drop p s))
