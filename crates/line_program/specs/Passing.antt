-- Contract. An operand that is passed over without its value.
use Rattle.std.specs.Prelude.{ℕ, zero, suc, ◌%◌, Bool, cond, List, [], ◌∷◌, leb, ltb}
use Rattle.tlv.specs.Outcome.{Outcome, refused, done}

-- an operand of k + 1 bytes at most is passed over; `fits` says which low seven bits the last of so many may have
unfoldable pub pass_within : (ℕ → Bool) → ℕ → List ℕ → Outcome (List ℕ)
pass_within fits zero [] = refused 7
pass_within fits zero (b ∷ s) = cond (fits (b % 128)) (cond (ltb b 128) (done s) (refused 11)) (refused 10)
pass_within fits (suc k) [] = refused 7
pass_within fits (suc k) (b ∷ s) = cond (ltb b 128) (done s) (pass_within fits k s)

abbrev pub fits_unsigned : ℕ → Bool
fits_unsigned bits = leb bits 1
