-- A range list is read as the Standard says, but for its limits and its dead ranges.
use mathlib.Core.Path.{◌≡◌, refl, sym, ap, ◌∙◌}
use mathlib.Core.Logic.{◌⊎◌, inl, inr}
use mathlib.Core.Bool.{Bool, true, false, cond, ◌&&◌}
use mathlib.Core.List.{List, [], ◌∷◌}
use mathlib.Core.Option.{Option, none, some}
use Prim.Native.Nat.{ℕ, zero, suc, ◌+◌, ◌*◌, ◌≤◌}
use native.Mathlib.Omega.{arith}
use borrow.Author.Tests.{eqb-true}
use lib.Dec.{leb, eqb}
use lib.ListN.{length}
use Rattle.tlv.specs.declared.model.AddressRange.{AddressRange}
use Rattle.tlv.specs.Outcome.{Outcome, refused, done, ◌>>=◌}
use Rattle.tlv.specs.Lists.{map_option}
use Rattle.tlv.specs.Model.{EntryRange}
use Rattle.line_program.specs.Standard.{and_then, Operand, leb128}
use Rattle.line_program.specs.Program.{uleb}
use Rattle.line_program.proofs.Operands.{operands}
use Rattle.rnglists.specs.Standard as standard
use Rattle.rnglists.specs.Standard.{Slot, nothing, number, address, Slots, slots_of, RawEntry, Meaning, ends, base, bounded, operand_in, operands_in, entry_in, indexed, between, list_after, list_within, range_list}
use Rattle.rnglists.specs.RangeLists.{read_operand, read_operands, read_entry, address_at, largest, dead, bounded_by, offset_pair, meaning_of, ListRanges, and_before, ranges_after, ranges_from, ranges_within, ranges_in}
use Rattle.rnglists.specs.Conforms.{RangeBeside, Cut, Limit, ListBeside, whole, cut, limit, Lists}

-- an answer beside the Standard's: the same, or R of both; cut off where the Standard says nothing; past a limit
data Beside {A B : Type 0} (R : A → B → Type 0) : Outcome A → Option B → Type 0 where
  alike : {a : A} {b : B} → R a b → Beside R (done a) (some b)
  stops : {n : ℕ} → Cut n → Beside R (refused n) none
  past : {n : ℕ} {o : Option B} → Limit n → Beside R (refused n) o

abbrev Same : {A : Type 0} → A → A → Type 0
Same {A} a b = ◌≡◌ {A = A} a b

module _ {A B C D : Type 0} {R : A → B → Type 0} {S : C → D → Type 0} where
  beside_bind : {x : Outcome A} {y : Option B} (f : A → Outcome C) (g : B → Option D) → Beside R x y → ((a : A) (b : B) → R a b → Beside S (f a) (g b)) → Beside S (x >>= f) (and_then y g)
  unfolding ◌>>=◌ and_then
  beside_bind f g (alike {a} {b} r) h = h a b r
  beside_bind f g (stops c) h = stops c
  beside_bind f g (past l) h = past l

module _ {A B : Type 0} (R : A → B → Type 0) where
  beside_test : (t : Bool) {x y : Outcome A} {v w : Option B} → Beside R x v → Beside R y w → Beside R (cond t x y) (cond t v w)
  beside_test true a b = a
  beside_test false a b = b

-- ---- operands and entries

number-beside : (s : List ℕ) → Beside Same (uleb s) (leb128 s)
number-beside s = go (uleb s) refl
  where
    go : (o : Outcome Operand) → uleb s ≡ o → Beside Same o (leb128 s)
    go (done o) e = rw (((operands s).read o).0 e).0 (alike refl)
    go (refused n) e = which ((operands s).only n e)
      where
        which : (n ≡ 7) ⊎ (n ≡ 10) ⊎ (n ≡ 11) → Beside Same (refused n) (leb128 s)
        which (inl h) = rw ((operands s).cut.0 (e ∙ ap refused h)).0 (stops (inl h))
        which (inr (inl h)) = past (inl h)
        which (inr (inr h)) = past (inr (inl h))

operand_beside : (size : ℕ) (x : Slot) (s : List ℕ) → Beside Same (read_operand size x s) (operand_in size x s)
unfolding read_operand operand_in
operand_beside size nothing s = alike refl
operand_beside size number s = number-beside s
operand_beside size address s = beside_test Same (leb size (length s)) (alike refl) (stops (inr (inl refl)))

module _ {A B C D : Type 0} {R : A → B → Type 0} {S : C → D → Type 0} where
  beside_map : {x : Outcome A} {y : Option B} (f : A → C) (g : B → D) → Beside R x y → ((a : A) (b : B) → R a b → S (f a) (g b)) → Beside S (x >>= λ a. done (f a)) (map_option g y)
  unfolding ◌>>=◌ map_option
  beside_map f g (alike {a} {b} r) h = alike (h a b r)
  beside_map f g (stops c) h = stops c
  beside_map f g (past l) h = past l

  beside_then : {x : Outcome A} {y : Option B} (f : A → Outcome C) (g : B → D) → Beside R x y → ((a : A) (b : B) → R a b → Beside S (f a) (some (g b))) → Beside S (x >>= f) (map_option g y)
  unfolding ◌>>=◌ map_option
  beside_then f g (alike {a} {b} r) h = h a b r
  beside_then f g (stops c) h = stops c
  beside_then f g (past l) h = past l

entry-beside : (size : ℕ) (s : List ℕ) → Beside Same (read_entry size s) (entry_in size s)
unfolding read_entry entry_in and_then
entry-beside size [] = stops (inr (inl refl))
entry-beside size (k ∷ s) = go (slots_of k)
  where
    go : (o : Option Slots) → Beside Same (read_operands size k s o) (and_then o (operands_in size k s))
    go none = stops (inr (inl refl))
    go (some x) = beside_bind _ _ (operand_beside size x.first s) λ a b r. rw (sym r)
        (beside_map _ _ (operand_beside size x.second a.rest) (λ c d q. ap (λ (z : Operand). record { kind = k; first = a.value; second = z.value; rest = z.rest }) q))

-- ---- meanings

abbrev MeaningBeside : ℕ → Meaning EntryRange → Meaning AddressRange → Type 0
MeaningBeside size ends ends = Unit {0}
MeaningBeside size (base b) (base c) = b ≡ c
MeaningBeside size (bounded r) (bounded x) = RangeBeside size r x
MeaningBeside size ends (base c) = ⊥
MeaningBeside size ends (bounded x) = ⊥
MeaningBeside size (base b) ends = ⊥
MeaningBeside size (base b) (bounded x) = ⊥
MeaningBeside size (bounded r) ends = ⊥
MeaningBeside size (bounded r) (base c) = ⊥

address-beside : (size : ℕ) (table : List ℕ) (i : ℕ) → Beside Same (address_at size table i) (indexed size table i)
unfolding address_at indexed
address-beside size table i = beside_test Same (leb (i * size + size) (length table)) (alike refl) (stops (inr (inr refl)))

dead-beside : (size : ℕ) (x : AddressRange) → largest size ≤ x.start → Beside (MeaningBeside size) (done (dead size)) (some (bounded x))
dead-beside size x h =
    let q : RangeBeside size (record { range = record { start = largest size; end = largest size }; tombstone = true }) x = inr (refl, h) in
    alike {a = dead size} {b = bounded x} q

same_beside : (size a b : ℕ) → Beside (MeaningBeside size) (done (bounded (record { range = record { start = a; end = b }; tombstone = false }))) (some (between a b))
same_beside size a b =
    let q : RangeBeside size (record { range = record { start = a; end = b }; tombstone = false }) (record { start = a; end = b }) = inl (refl, refl) in
    alike {a = bounded (record { range = record { start = a; end = b }; tombstone = false })} {b = between a b} q

bounded-beside : (size a b : ℕ) → Beside (MeaningBeside size) (bounded_by size a b) (some (between a b))
unfolding bounded_by
bounded-beside size a b = go (eqb a (largest size)) refl
  where
    go : (t : Bool) → eqb a (largest size) ≡ t → Beside (MeaningBeside size) (cond t (done (bounded (record { range = record { start = largest size; end = largest size }; tombstone = true })))
        (cond (leb a (largest size) && leb b (largest size)) (done (bounded (record { range = record { start = a; end = b }; tombstone = false }))) (refused 25))) (some (between a b))
    go true e = dead-beside size (record { start = a; end = b }) (omega (arith, eqb-true a (largest size) e))
    go false e = fits (leb a (largest size) && leb b (largest size))
      where
        fits : (t : Bool) → Beside (MeaningBeside size) (cond t (done (bounded (record { range = record { start = a; end = b }; tombstone = false }))) (refused 25)) (some (between a b))
        fits true = same_beside size a b
        fits false = past (inr (inr refl))

pair_beside : (size from a b : ℕ) → Beside (MeaningBeside size) (offset_pair size from a b) (some (between (from + a) (from + b)))
unfolding offset_pair
pair_beside size from a b = go (eqb from (largest size)) refl
  where
    go : (t : Bool) → eqb from (largest size) ≡ t → Beside (MeaningBeside size) (cond t (done (bounded (record { range = record { start = largest size; end = largest size }; tombstone = true }))) (bounded_by size (from + a) (from + b))) (some (between (from + a) (from + b)))
    go true e = dead-beside size (record { start = from + a; end = from + b }) (omega (arith, eqb-true from (largest size) e))
    go false e = bounded-beside size (from + a) (from + b)

meaning_beside : (size : ℕ) (table : List ℕ) (from : ℕ) (e : RawEntry) → Beside (MeaningBeside size) (meaning_of size table from e) (standard.meaning_of size table from e)
unfolding meaning_of standard.meaning_of
meaning_beside size table from e =
    let k = e.kind in
    let a = e.first in
    let b = e.second in
    beside_test (MeaningBeside size) (eqb k 0) (alike {a = ends} {b = ends} tt)
    (beside_test (MeaningBeside size) (eqb k 1) (beside_map _ _ (address-beside size table a) (λ x y r. r))
    (beside_test (MeaningBeside size) (eqb k 2) (beside_bind _ _ (address-beside size table a) λ x y r. rw (sym r) (beside_then _ _ (address-beside size table b) λ v w q. rw (sym q) (bounded-beside size x v)))
    (beside_test (MeaningBeside size) (eqb k 3) (beside_then _ _ (address-beside size table a) λ x y r. rw (sym r) (bounded-beside size x (x + b)))
    (beside_test (MeaningBeside size) (eqb k 4) (pair_beside size from a b)
    (beside_test (MeaningBeside size) (eqb k 5) (alike {a = base a} {b = base a} refl)
    (beside_test (MeaningBeside size) (eqb k 6) (bounded-beside size a b)
    (bounded-beside size a (a + b))))))))

-- ---- lists

before-beside : {size : ℕ} {r : EntryRange} {x : AddressRange} {l : ListRanges} {o : Option (List AddressRange)} → RangeBeside size r x → ListBeside size l o
    → ListBeside size (and_before r l) (map_option (λ xs. x ∷ xs) o)
unfolding map_option
before-beside {r = r} {x = x} h (whole {rs} {xs} q) = whole {rs = r ∷ rs} {xs = x ∷ xs} (h, q)
before-beside h (cut c) = cut c
before-beside h (limit l) = limit l

within-beside : (k size : ℕ) (table : List ℕ) (from : ℕ) (s : List ℕ) → ListBeside size (ranges_within k size table from s) (list_within k size table from s)
unfolding ranges_within list_within and_then
within-beside zero size table from s = cut (inr (inl refl))
within-beside (suc k) size table from s = go (λ b t. within-beside k size table b t) (entry-beside size s)
  where
    said : ((b : ℕ) (t : List ℕ) → ListBeside size (ranges_within k size table b t) (list_within k size table b t)) → (t : List ℕ)
        → (m : Meaning EntryRange) (n : Meaning AddressRange) → MeaningBeside size m n
        → ListBeside size (ranges_after (λ b. ranges_within k size table b t) from (done m)) (list_after (λ b. list_within k size table b t) from n)
    said ih t ends ends q = whole {rs = []} {xs = []} tt
    said ih t ends (base c) q = absurd q
    said ih t ends (bounded x) q = absurd q
    said ih t (base b) ends q = absurd q
    said ih t (base b) (base c) q = rw (sym q) (ih b t)
    said ih t (base b) (bounded x) q = absurd q
    said ih t (bounded r) ends q = absurd q
    said ih t (bounded r) (base c) q = absurd q
    said ih t (bounded r) (bounded x) q = before-beside q (ih from t)

    more : ((b : ℕ) (t : List ℕ) → ListBeside size (ranges_within k size table b t) (list_within k size table b t)) → (t : List ℕ)
        → {m : Outcome (Meaning EntryRange)} {n : Option (Meaning AddressRange)} → Beside (MeaningBeside size) m n
        → ListBeside size (ranges_after (λ b. ranges_within k size table b t) from m) (and_then n (list_after (λ b. list_within k size table b t) from))
    more ih t (alike {a} {b} r) = said ih t a b r
    more ih t (stops c) = cut c
    more ih t (past l) = limit l

    go : ((b : ℕ) (t : List ℕ) → ListBeside size (ranges_within k size table b t) (list_within k size table b t))
        → {o : Outcome RawEntry} {p : Option RawEntry} → Beside Same o p
        → ListBeside size (ranges_from (ranges_within k size table) size table from o)
        (and_then p (λ e. and_then (standard.meaning_of size table from e) (list_after (λ b. list_within k size table b e.rest) from)))
    go ih (alike {a} {b} r) = rw (sym r) (more ih a.rest (meaning_beside size table from a))
    go ih (stops c) = cut c
    go ih (past l) = limit l

pub lists : Lists
unfolding ranges_in range_list
lists size table from s = within-beside (length s) size table from s
