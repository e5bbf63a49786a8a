-- The hash's loop: what is left of the bytes, from the hash so far, gives the hash that is asked.
use mathlib.Core.Path.{◌≡◌, refl, sym, ap, ◌∙◌}
use mathlib.Core.List.{List}
use Prim.Native.Nat.{ℕ, ◌+◌, ◌*◌, ◌%◌, ◌≤◌, ◌<◌}
use lib.ListN.{length, get_or, drop, drop_of_length-le}
use Rattle.paths.proofs.PathCodeLaws.{drop_byte}
use Rattle.files.specs.Hash.{modulus, hash_from}

pub record Hashing (s : List ℕ) (h r i : ℕ) : Type 0 where
  pub goes : hash_from r (drop i s) ≡ hash_from h s

pub hash-step : {s : List ℕ} {h r i : ℕ} → Hashing s h r i → i < length s → Hashing s h ((r * 16777619 + get_or s i 0 + 1) % modulus) (i + 1)
unfolding hash_from
hash-step {s} {h} {r} {i} H l = record {
  goes = ap (hash_from r) (sym (drop_byte s i (get_or s i 0) l refl)) ∙ H.goes;
}

pub hash-done : {s : List ℕ} {h r i : ℕ} → Hashing s h r i → length s ≤ i → r ≡ hash_from h s
unfolding hash_from
hash-done {s} {h} {r} {i} H l = sym (ap (hash_from r) (drop_of_length-le s {i = i} l)) ∙ H.goes
