-- What an entry says: the branches of the code, each with the definition's.
use mathlib.Core.Path.{◌≡◌, refl, sym, ◌∙◌}
use mathlib.Core.Logic.{◌⊎◌, inl, inr}
use mathlib.Core.Bool.{true, false}
use mathlib.Core.List.{List}
use Prim.Native.Nat.{ℕ, ◌+◌, ◌-◌, ◌*◌, ◌/◌, ◌≤◌, ◌<◌}
use native.Mathlib.Omega.{arith}
use borrow.Author.Tests.{eq-eqb, ne_eqb, le-leb, lt-leb}
use lib.ListN.{length, length-drop}
use lib.Seq.{drop-drop}
use Rattle.std.specs.Prelude.{Result, Ok, Err}
use Rattle.tlv.specs.Outcome.{◌>>=◌}
use Rattle.tlv.specs.declared.refusal.Refusal.{Refusal}
use Rattle.rnglists.specs.declared.entries.ListEntry.{ListEntry}
use Rattle.rnglists.specs.declared.sizes.AddressSize.{AddressSize}
use Rattle.rnglists.specs.Sizes.{width_of}
use Rattle.tlv.specs.Bytes.{le_at}
use Rattle.rnglists.specs.declared.lists.Meant.{Meant}
use Rattle.rnglists.specs.RangeLists.{address_at, largest, bounded_by, offset_pair, meaning_of}
use Rattle.rnglists.specs.Steps.{SaysBounded, SaysPair, FindsAddress, Says}

-- ---- a range between two addresses

module _ {top a b : ℕ} where
  pub bounded-dead : a ≡ top → SaysBounded top a b (Ok (Meant.Range (record { start = a; end = top }) true))
  unfolding bounded_by
  bounded-dead e = record { is = λ size t. rw (← t, eq-eqb a top e, e) }

  module _ (n : a ≡ top → ⊥) where
    pub bounded-start : top < a → SaysBounded top a b (Err Refusal.WideAddress)
    unfolding bounded_by
    bounded-start h = record { is = λ size t. rw (← t, ne_eqb a top n, lt-leb a top h) }

    pub bounded-end : a ≤ top → top < b → SaysBounded top a b (Err Refusal.WideAddress)
    unfolding bounded_by
    bounded-end l h = record { is = λ size t. rw (← t, ne_eqb a top n, le-leb a top l, lt-leb b top h) }

    pub bounded-wide : (top < a) ⊎ ((a ≤ top) × (top < b)) → SaysBounded top a b (Err Refusal.WideAddress)
    bounded-wide (inl h) = bounded-start h
    bounded-wide (inr h) = bounded-end h.0 h.1

    pub bounded-live : a ≤ top → b ≤ top → SaysBounded top a b (Ok (Meant.Range (record { start = a; end = b }) false))
    unfolding bounded_by
    bounded-live l h = record { is = λ size t. rw (← t, ne_eqb a top n, le-leb a top l, le-leb b top h) }

-- a dead range is dead whatever its end
pub bounded-any : {r : Result Meant Refusal} {top a b c : ℕ} → a ≡ top → SaysBounded top a b r → SaysBounded top a c r
unfolding bounded_by
bounded-any {top = top} {a = a} e s = record { is = λ size t. s.is size t ∙ rw (← t, eq-eqb a top e) }

-- ---- an offset pair

module _ {top from a b : ℕ} where
  pub pair-dead : {r : Result Meant Refusal} {c d : ℕ} → from ≡ top → c ≡ top → SaysBounded top c d r → SaysPair top from a b r
  unfolding offset_pair bounded_by
  pair-dead {c = c} e g s = record { is = λ size t. s.is size t ∙ rw (← t, eq-eqb from top e, eq-eqb c top g) }

  module _ (n : from ≡ top → ⊥) where
    pub pair-by : {r : Result Meant Refusal} → SaysBounded top (from + a) (from + b) r → SaysPair top from a b r
    unfolding offset_pair
    pair-by s = record { is = λ size t. s.is size t ∙ rw (← t, ne_eqb from top n) }

    pub pair-base : top < from → SaysPair top from a b (Err Refusal.WideAddress)
    pair-base h = pair-by (bounded-start {top = top} {a = from + a} {b = from + b} (λ e. omega arith) (omega arith))

    pub pair-start : from ≤ top → top - from < a → SaysPair top from a b (Err Refusal.WideAddress)
    pair-start l h = pair-by (bounded-start {top = top} {a = from + a} {b = from + b} (λ e. omega arith) (omega arith))

    pub pair_end : (from + a ≡ top → ⊥) → from ≤ top → a ≤ top - from → top - from < b → SaysPair top from a b (Err Refusal.WideAddress)
    pair_end g l k h = pair-by (bounded-end {top = top} {a = from + a} {b = from + b} g (omega arith) (omega arith))

    -- a start that is dead
    pub pair-dies : {r : Result Meant Refusal} {d : ℕ} → from + a ≡ top → SaysBounded top (from + a) d r → SaysPair top from a b r
    pair-dies e s = pair-by (bounded-any e s)

-- a length that does not fit
pub length-wide : {top a n : ℕ} → (a ≡ top → ⊥) → (top < a) ⊎ ((a ≤ top) × (top - a < n)) → SaysBounded top a (a + n) (Err Refusal.WideAddress)
length-wide {top} {a} {n} g (inl h) = bounded-start {top = top} {a = a} {b = a + n} g h
length-wide {top} {a} {n} g (inr h) = bounded-end {top = top} {a = a} {b = a + n} g h.0 (omega arith)

-- ---- an address of the table

pub some_width : (a : AddressSize) → 0 < width_of a
some_width AddressSize.Four = omega arith
some_width AddressSize.Eight = omega arith

-- an index that the bytes of a table have room for
pub index-room : (a : AddressSize) (room i : ℕ) → i < room / width_of a → i * width_of a + width_of a ≤ room
index-room AddressSize.Four room i h = omega arith
index-room AddressSize.Eight room i h = omega arith

index-over : (a : AddressSize) (room i : ℕ) → room / width_of a ≤ i → room < i * width_of a + width_of a
index-over AddressSize.Four room i h = omega arith
index-over AddressSize.Eight room i h = omega arith

module _ {table : List ℕ} {place i : ℕ} (a : AddressSize) where
  past : length table - place < i * width_of a + width_of a → FindsAddress table place (width_of a) i (Err Refusal.NoAddress)
  unfolding address_at
  past h = record { is = sym (rw (length-drop place table, lt-leb (i * width_of a + width_of a) (length table - place) h)) }

  pub address-none : length table < place → FindsAddress table place (width_of a) i (Err Refusal.NoAddress)
  address-none h = past (omega (arith, some_width a))

  pub index-past : (length table - place) / width_of a ≤ i → FindsAddress table place (width_of a) i (Err Refusal.NoAddress)
  index-past h = past (index-over a (length table - place) i h)

  pub index-found : {v : ℕ} → i < (length table - place) / width_of a → v ≡ le_at (width_of a) table (place + i * width_of a)
      → FindsAddress table place (width_of a) i (Ok v)
  unfolding address_at le_at
  index-found h e = record
      { is = sym (rw (length-drop place table, le-leb (i * width_of a + width_of a) (length table - place) (index-room a (length table - place) i h), e, drop-drop (i * width_of a) place table)) }

-- ---- what an entry says, by its kind

module _ {table : List ℕ} {place size from : ℕ} where
  pub says-end : Says table place size from ListEntry.EndOfList (Ok Meant.End)
  unfolding meaning_of
  says-end = record { is = refl }

  pub says-base : {a : ℕ} → Says table place size from (ListEntry.BaseAddress a) (Ok (Meant.Base a))
  unfolding meaning_of
  says-base = record { is = refl }

  module _ {r : Result Meant Refusal} {top a b : ℕ} (t : top ≡ largest size) where
    pub says-pair : SaysPair top from a b r → Says table place size from (ListEntry.OffsetPair a b) r
    unfolding meaning_of
    says-pair S = record { is = S.is size t }

    pub says-between : SaysBounded top a b r → Says table place size from (ListEntry.StartEnd a b) r
    unfolding meaning_of
    says-between S = record { is = S.is size t }

    pub says-length : SaysBounded top a (a + b) r → Says table place size from (ListEntry.StartLength a b) r
    unfolding meaning_of
    says-length S = record { is = S.is size t }

  module _ {f : Refusal} {a : ℕ} (F : FindsAddress table place size a (Err f)) where
    pub past-base : Says table place size from (ListEntry.BaseAddressx a) (Err f)
    unfolding meaning_of ◌>>=◌
    past-base = record { is = sym (rw (← F.is)) }

    pub past-start : {b : ℕ} → Says table place size from (ListEntry.StartxEndx a b) (Err f)
    unfolding meaning_of ◌>>=◌
    past-start = record { is = sym (rw (← F.is)) }

    pub past-length : {b : ℕ} → Says table place size from (ListEntry.StartxLength a b) (Err f)
    unfolding meaning_of ◌>>=◌
    past-length = record { is = sym (rw (← F.is)) }

  module _ {x a : ℕ} (F : FindsAddress table place size a (Ok x)) where
    pub found-base : Says table place size from (ListEntry.BaseAddressx a) (Ok (Meant.Base x))
    unfolding meaning_of ◌>>=◌
    found-base = record { is = sym (rw (← F.is)) }

    pub found-length : {b : ℕ} {r : Result Meant Refusal} {top : ℕ} → top ≡ largest size → SaysBounded top x (x + b) r
        → Says table place size from (ListEntry.StartxLength a b) r
    unfolding meaning_of ◌>>=◌
    found-length t S = record { is = S.is size t ∙ sym (rw (← F.is)) }

    pub past_end : {b : ℕ} {f : Refusal} → FindsAddress table place size b (Err f) → Says table place size from (ListEntry.StartxEndx a b) (Err f)
    unfolding meaning_of ◌>>=◌
    past_end H = record { is = sym (rw (← F.is, ← H.is)) }

    pub found-end : {b y : ℕ} {r : Result Meant Refusal} {top : ℕ} → FindsAddress table place size b (Ok y) → top ≡ largest size
        → SaysBounded top x y r → Says table place size from (ListEntry.StartxEndx a b) r
    unfolding meaning_of ◌>>=◌
    found-end H t S = record { is = S.is size t ∙ sym (rw (← F.is, ← H.is)) }

pub ruleset pairs = (pair-dead, pair-start)
