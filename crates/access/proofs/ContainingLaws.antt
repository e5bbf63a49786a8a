-- The unit in which an offset of the section lies: the turns of the search in a table of units, and what it finds of the sheet.
use mathlib.Core.Path.{◌≡◌, refl, sym, ap, ◌∙◌}
use mathlib.Core.Bool.{Bool, true, false, cond, ◌&&◌}
use mathlib.Core.List.{List, [], ◌∷◌, map}
use mathlib.Core.Option.{none, some}
use Prim.Native.Nat.{ℕ, zero, suc, ◌+◌, ◌-◌, ◌*◌, ◌≤◌, ◌<◌}
use native.Mathlib.Omega.{arith}
use lib.Dec.{leb, ltb}
use lib.ListN.{drop}
use borrow.Author.Tests.{le-leb, lt-leb, lt-ltb, le-ltb}
use Rattle.tlv.specs.Lists.{first, map_option}
use Rattle.tlv.specs.Fields.{fields}
use Rattle.tlv.specs.Model.{CompilationUnit, units}
use Rattle.tlv.proofs.TestLaws.{by_less}
use Rattle.buffers.specs.Table.{chunk, records}
use Rattle.buffers.proofs.RecordLaws.{records-rest_none, records-rest_cons}
use Rattle.access.specs.Places.{unit_here, unit_places}
use Rattle.access.specs.declared.units.UnitSpan.{UnitSpan}
use Rattle.access.specs.Units.{IndexedUnit, indexed_unit, unit_of24, spans, within, containing}
use Rattle.access.proofs.UnitPlaceLaws.{units-places}

-- ---- the test

module _ (target o n : ℕ) where
  pub in_unit : o ≤ target → target - o < n → within target o n ≡ true
  in_unit h l = rw (le-leb o target h, lt-ltb target (o + n) (omega arith))

  pub behind-unit : o ≤ target → n ≤ target - o → within target o n ≡ false
  behind-unit h l = rw (le-leb o target h, le-ltb target (o + n) (omega arith))

  -- the test that needs no sum
  pub left-of_unit : target < o → leb o target ≡ within target o n
  left-of_unit h = rw (lt-leb o target h)

  pub left_unit : o ≤ target → ltb (target - o) n ≡ within target o n
  left_unit h = by_less (ltb (target - o) n ≡ within target o n) (target - o) n
      (λ l. rw (in_unit h l, lt-ltb (target - o) n l))
      (λ l. rw (behind-unit h l, le-ltb (target - o) n l))

-- ---- the search: what the test says of unit i of a table, and what `find` over the numbers of its units gives

module _ (w : List ℕ) (base n target : ℕ) where
  abbrev pub unit_at : ℕ → IndexedUnit
  unit_at i = unit_of24 (chunk w (base + i * 24) 24)

  abbrev pub Says : Bool → ℕ → Type 0
  Says b i = within target (unit_at i).offset (unit_at i).length ≡ b

  past : (i : ℕ) → i ≤ n → ((k : ℕ) → k < i → Says false k)
      → containing target (records unit_of24 24 w base n) ≡ containing target (drop i (records unit_of24 24 w base n))
  unfolding first
  past zero h f = refl
  past (suc i) h f =
      let next : i + 1 ≡ suc i = omega arith in
      past i (omega arith) (λ k l. f k (omega arith))
      ∙ rw (records-rest_cons unit_of24 24 w base n i (omega arith), f i (omega arith))
      (ap (λ (k : ℕ). containing target (drop k (records unit_of24 24 w base n))) next)

  pub containing-none : ((k : ℕ) → 0 ≤ k → k < n → Says false k) → none ≡ containing target (records unit_of24 24 w base n)
  unfolding first map_option
  containing-none f = sym (past n (omega arith) (λ k h. f k (omega arith) h) ∙ rw (records-rest_none unit_of24 24 w base n n (omega arith)) refl)

  pub containing-here : (i : ℕ) → (0 ≤ i) × (i < n) × Says true i × ((k : ℕ) → 0 ≤ k → k < i → Says false k)
      → (u : UnitSpan) → spans u ≡ unit_at i → some u.place ≡ containing target (records unit_of24 24 w base n)
  unfolding first map_option
  containing-here i (low, h, f, before) u is =
      ap (λ (x : IndexedUnit). some x.place) is
      ∙ sym (past i (omega arith) (λ k l. before k (omega arith) l) ∙ rw (records-rest_cons unit_of24 24 w base n i h, f) refl)

-- ---- what is found

module _ {A B : Type 0} (t : B → Bool) (f : A → B) where
  -- the first image that passes a test is the image of the first whose image does
  pub first-image : (xs : List A) → first t (map f xs) ≡ map_option f (first (λ x. t (f x)) xs)
  unfolding first map_option
  first-image [] = refl
  first-image (x ∷ xs) = go (t (f x)) (first-image xs)
    where
      go : (b : Bool) → first t (map f xs) ≡ map_option f (first (λ x. t (f x)) xs)
          → cond b (some (f x)) (first t (map f xs)) ≡ map_option f (cond b (some x) (first (λ x. t (f x)) xs))
      go true e = refl
      go false e = e

-- the place of the first unit that has the target in it, as a place of the sheet
pub containing-places : (s : List ℕ) (target : ℕ) (qs : List ℕ)
    → containing target (map (indexed_unit s) qs) ≡ first (λ q. within target (unit_here s q).offset (unit_here s q).length) qs
unfolding first map_option indexed_unit
containing-places s target [] = refl
containing-places s target (q ∷ qs) = go (within target (unit_here s q).offset (unit_here s q).length) (containing-places s target qs)
  where
    go : (b : Bool) → containing target (map (indexed_unit s) qs) ≡ first (λ q. within target (unit_here s q).offset (unit_here s q).length) qs
        → map_option (λ u. u.place) (cond b (some (indexed_unit s q)) (first (λ u. within target u.offset u.length) (map (indexed_unit s) qs)))
        ≡ cond b (some q) (first (λ q. within target (unit_here s q).offset (unit_here s q).length) qs)
    go true e = refl
    go false e = e

-- the first unit of a sheet that has the target in it is the one at the place that the table says
pub units-containing : (s : List ℕ) (target : ℕ)
    → first (λ u. leb u.offset target && ltb target (u.offset + u.length)) (units s)
    ≡ map_option (unit_here s)
    (map_option (λ u. u.place) (first (λ u. leb u.offset target && ltb target (u.offset + u.length)) (map (indexed_unit s) (unit_places 0 (fields s)))))
units-containing s target =
    ap (first (λ (u : CompilationUnit). within target u.offset u.length)) (units-places s)
    ∙ first-image (λ (u : CompilationUnit). within target u.offset u.length) (unit_here s) (unit_places 0 (fields s))
    ∙ ap (map_option (unit_here s)) (sym (containing-places s target (unit_places 0 (fields s))))
