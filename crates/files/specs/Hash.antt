-- Contract. The hash of a file by which the table looks it up. It decides no answer: files that are the same have the same hash.
use Rattle.std.specs.Prelude.{ℕ, ◌+◌, ◌*◌, ◌%◌, List, [], ◌∷◌}
use Rattle.buffers.specs.Output.{FileEntry}

-- the prime of FNV's hash of 32 bits
abbrev pub prime : ℕ
prime = 16777619

-- 2^32: the remainder is the low half of a word, which costs no division
abbrev pub modulus : ℕ
modulus = 4294967296

unfoldable pub hash_from : ℕ → List ℕ → ℕ
hash_from h [] = h
hash_from h (b ∷ s) = hash_from ((h * prime + b + 1) % modulus) s

unfoldable pub hash_of : FileEntry → ℕ
hash_of e = hash_from (hash_from 0 e.directory) e.basename
