-- Contract. What a call is cut into: a number in its first 4 bytes, and parts that stand behind their lengths.
use Rattle.std.specs.Prelude.{◌≡◌, ◌⊎◌, ◌+◌, ◌<◌, ℕ, List, ◌++◌, length, take, drop}
use Rattle.std.specs.Int.{w16, w32, from_le_bytes}

-- the number in the first 4 bytes
abbrev pub number_of : List ℕ → ℕ
number_of call = from_le_bytes w32 (take 4 call)

pub record SplitsNumber (call : List ℕ) (n : ℕ) (rest : List ℕ) : Type 0 where
  pub number : n ≡ number_of call
  pub rest-is : rest ≡ drop 4 call
  pub fits : length rest + 4 ≡ length call

pub record NoNumber (call : List ℕ) : Type 0 where
  pub short : length call < 4

pub record SplitsPart (call part rest : List ℕ) : Type 0 where
  pub size : length part ≡ number_of call
  pub whole : drop 4 call ≡ part ++ rest
  pub fits : length rest + length part + 4 ≡ length call

pub record NoPart (call : List ℕ) : Type 0 where
  pub short : length call < 4 ⊎ length call < 4 + number_of call

-- the number in the first 2 bytes
abbrev pub short_number_of : List ℕ → ℕ
short_number_of call = from_le_bytes w16 (take 2 call)

pub record SplitsShortPart (call part rest : List ℕ) : Type 0 where
  pub size : length part ≡ short_number_of call
  pub whole : drop 2 call ≡ part ++ rest
  pub fits : length rest + length part + 2 ≡ length call

pub record NoShortPart (call : List ℕ) : Type 0 where
  pub short : length call < 2 ⊎ length call < 2 + short_number_of call

pub record SplitsParts (call first second rest : List ℕ) : Type 0 where
  pub first-size : length first ≡ number_of call
  pub second-size : length second ≡ number_of (drop 4 call)
  pub whole : drop 4 (drop 4 call) ≡ first ++ second ++ rest
  pub fits : length rest + length second + length first + 8 ≡ length call

pub record NoParts (call : List ℕ) : Type 0 where
  pub short : length call < 8 ⊎ length call < 8 + number_of call + number_of (drop 4 call)
