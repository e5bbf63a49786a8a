-- Contract. What is read of an input of calls: a number in 4 bytes, and a call behind its length.
use Rattle.std.specs.Prelude.{Option, Result, Ok, ◌≡◌, ◌⊎◌, ℕ, zero, suc, Bool, true, false, List, [], ◌∷◌, length}
use Rattle.std.specs.Borrow.{MutBor}
use Rattle.std.specs.Fn.{CalledAtMut, Mut}
use Rattle.std.specs.Io.KnownBytes.{Consumes}
use Rattle.std.specs.Int.{w32, from_le_bytes}

-- the byte is the one that was read, where there is one
pub record NextByte (before after : Option (List ℕ)) (b : ℕ) : Type 0 where
  pub read : List ℕ
  pub consumed : Consumes before after read
  pub is : length read ≡ 1 → read ≡ b ∷ []

-- the number is that of the bytes read, where all 4 are there
pub record NextNumber (before after : Option (List ℕ)) (n : ℕ) : Type 0 where
  pub read : List ℕ
  pub consumed : Consumes before after read
  pub number : length read ≡ 4 → n ≡ from_le_bytes w32 read

-- the call is as long as the number before it says, and is what the input has behind that number
pub record NextCall (before after : Option (List ℕ)) (call : List ℕ) : Type 0 where
  pub between : Option (List ℕ)
  pub size : NextNumber before between (length call)
  pub consumed : Consumes between after call

-- what was read is a call
pub record ReadsCall (before after : Option (List ℕ)) : Type 0 where
  pub call : List ℕ
  pub next : NextCall before after call

-- from a closure and an input, which stand together, a call of the closure says b and leaves them so
abbrev pub Says : {F R E : Type 0} → Mut F (MutBor R × Unit {0}) (Result Bool E × (MutBor R × Unit {0})) → F × R → Bool → F × R → Type 0
Says g s b t = CalledAtMut g s.0 s.1 (Ok b) t.0 t.1

-- calls that are made one after the other, from s to t: n of them that say true, or fewer and then one that says false
unfoldable pub Made : {S : Type 0} → (S → Bool → S → Type 0) → ℕ → S → S → Type 0
Made step zero s t = s ≡ t
Made {S} step (suc n) s t = step s false t ⊎ ((u : S) × step s true u × Made step n u t)

-- the number of calls was read, and they were made: from the closure and the input behind that number on
pub record AnswersAll {R F : Type 0} (remaining : R → Option (List ℕ))
    {E : Type 0} (g : Mut F (MutBor R × Unit {0}) (Result Bool E × (MutBor R × Unit {0}))) (f : F) (old new : R) : Type 0 where
  pub count : ℕ
  pub between : R
  pub number : NextNumber (remaining old) (remaining between) count
  pub last : F
  pub calls : Made (Says g) count (f, between) (last, new)
