-- A search in a table of entries whose offsets ascend: where it turns, and what it finds.
use mathlib.Core.Path.{◌≡◌, refl, sym, ap, ◌∙◌}
use mathlib.Core.Bool.{Bool, true, false, cond}
use mathlib.Core.List.{List, [], ◌∷◌}
use mathlib.Core.Option.{Option, none, some}
use Prim.Native.Nat.{ℕ, zero, suc, ◌+◌, ◌-◌, ◌*◌, ◌<◌, ◌≤◌}
use native.Mathlib.Omega.{arith}
use lib.Dec.{eqb}
use lib.ListN.{length, drop, get_or}
use borrow.Author.Tests.{lt-ltb, le-ltb, eq-eqb, ne_eqb}
use Rattle.tlv.specs.Lists.{first}
use Rattle.tlv.specs.Bytes.{le_at}
use Rattle.tlv.proofs.TestLaws.{by_less}
use Rattle.buffers.specs.Table.{records}
use Rattle.buffers.proofs.ChunkLaws.{le_at-front}
use Rattle.buffers.proofs.RecordLaws.{records-length, records-at, records-rest_none, records-rest_cons}
use Rattle.std.specs.Prelude.{Some, None}
use Rattle.access.specs.Places.{IndexedEntry}
use Rattle.access.specs.Index.{indexed_of, RisingFrom, Rising, lookup, lower_than, found_of}
use Rattle.access.proofs.IndexLaws.{indexed-is}

-- ---- entries whose offsets ascend

rising-at : (k : ℕ) (es : List IndexedEntry) (i : ℕ) (d : IndexedEntry) → RisingFrom k es → i < length es → k ≤ (get_or es i d).offset
unfolding RisingFrom
rising-at k [] i d r h = absurd (omega arith)
rising-at k (e ∷ es) zero d r h = r.0
rising-at k (e ∷ es) (suc i) d r h = let first = r.0 in omega (arith, rising-at (suc e.offset) es i d r.1 (omega arith))

module _ (o : ℕ) (d : IndexedEntry) where
  -- an entry below o stands before the place of o, and no other does
  above : (k : ℕ) (es : List IndexedEntry) (i : ℕ) → RisingFrom k es → i < length es → (get_or es i d).offset < o → i < lower_than o es
  unfolding RisingFrom lower_than
  above k [] i r h g = absurd (omega arith)
  above k (e ∷ es) zero r h g = rw (lt-ltb e.offset o g) (omega arith)
  above k (e ∷ es) (suc i) r h g =
      let small : e.offset < o = omega (arith, rising-at (suc e.offset) es i d r.1 (omega arith)) in
      rw (lt-ltb e.offset o small) (omega (arith, above (suc e.offset) es i r.1 (omega arith) g))

  not-above : (es : List IndexedEntry) (i : ℕ) → i < length es → o ≤ (get_or es i d).offset → lower_than o es ≤ i
  unfolding lower_than
  not-above [] i h g = absurd (omega arith)
  not-above (e ∷ es) zero h g = rw (le-ltb e.offset o g) (omega arith)
  not-above (e ∷ es) (suc i) h g =
      let rest = not-above es i (omega arith) g in
      by_less _ e.offset o (λ l. rw (lt-ltb e.offset o l) (omega arith)) (λ l. rw (le-ltb e.offset o l) (omega arith))

lower-length : (o : ℕ) (es : List IndexedEntry) → lower_than o es ≤ length es
unfolding lower_than
lower-length o [] = omega arith
lower-length o (e ∷ es) =
    let rest = lower-length o es in
    by_less _ e.offset o (λ l. rw (lt-ltb e.offset o l) (omega arith)) (λ l. rw (le-ltb e.offset o l) (omega arith))

-- the first of these, if it has the offset o
abbrev hit : ℕ → List IndexedEntry → Option IndexedEntry
hit o [] = none
hit o (e ∷ es) = cond (eqb e.offset o) (some e) none

lookup-none : (o k : ℕ) (es : List IndexedEntry) → RisingFrom k es → o < k → lookup o es ≡ none
unfolding RisingFrom lookup first
lookup-none o k [] r h = refl
lookup-none o k (e ∷ es) r h =
    let here = r.0 in
    rw (ne_eqb e.offset o (λ is. omega arith)) (lookup-none o (suc e.offset) es r.1 (omega arith))

-- the entry of an offset stands at its place, or nowhere
lookup-hit : (o k : ℕ) (es : List IndexedEntry) → RisingFrom k es → lookup o es ≡ hit o (drop (lower_than o es) es)
unfolding RisingFrom lookup first lower_than
lookup-hit o k [] r = refl
lookup-hit o k (e ∷ es) r =
    by_less _ e.offset o
    (λ l. rw (lt-ltb e.offset o l, ne_eqb e.offset o (λ is. omega arith)) (lookup-hit o (suc e.offset) es r.1))
    (λ l. rw (le-ltb e.offset o l) (go (eqb e.offset o) refl l))
  where
    go : (b : Bool) → eqb e.offset o ≡ b → o ≤ e.offset → cond b (some e) (lookup o es) ≡ cond b (some e) none
    go true is l = refl
    go false is l = lookup-none o (suc e.offset) es r.1 (omega arith)

-- ---- a turn of the search: entry i of the table has the offset v

module _ (w : List ℕ) (base n o : ℕ) where
  pub lower-most : lower_than o (records indexed_of 16 w base n) ≤ n
  lower-most = omega (arith, lower-length o (records indexed_of 16 w base n), records-length indexed_of 16 w base n)

  module _ (i v : ℕ) (h : i < n) (is : v ≡ le_at 8 w (base + i * 16)) where
    offset-is : (get_or (records indexed_of 16 w base n) i (indexed_of [])).offset ≡ v
    unfolding indexed_of
    offset-is = ap (λ (e : IndexedEntry). e.offset) (records-at indexed_of 16 w base n i (indexed_of []) h) ∙ le_at-front 8 w (base + i * 16) 16 (omega arith) ∙ sym is

    in_table : i < length (records indexed_of 16 w base n)
    in_table = rw (records-length indexed_of 16 w base n) h

    pub go_up : Rising (records indexed_of 16 w base n) → v < o → i + 1 ≤ lower_than o (records indexed_of 16 w base n)
    go_up r l = omega (arith, above o (indexed_of []) 0 (records indexed_of 16 w base n) i r in_table (rw offset-is l))

    pub go_down : o ≤ v → lower_than o (records indexed_of 16 w base n) ≤ i
    go_down l = not-above o (indexed_of []) (records indexed_of 16 w base n) i in_table (rw offset-is l)

  -- a search that turns at m found the number of lower ones
  pub lower-turn : (m : ℕ) → Rising (records indexed_of 16 w base n) → m ≤ n → (0 < m → le_at 8 w (base + (m - 1) * 16) < o) → (m < n → o ≤ le_at 8 w (base + m * 16))
      → m ≡ lower_than o (records indexed_of 16 w base n)
  lower-turn m r le passed next =
      let most = lower-most in
      let up : m ≤ lower_than o (records indexed_of 16 w base n) = by_less _ 0 m (λ h. omega (arith, go_up (m - 1) _ (omega arith) refl r (passed h))) (λ h. omega arith) in
      let down : lower_than o (records indexed_of 16 w base n) ≤ m = by_less _ m n (λ h. go_down m _ h refl (next h)) (λ h. omega arith) in
      omega arith

  -- ---- what is found: i is the place of o in the table

  module _ (i : ℕ) (r : Rising (records indexed_of 16 w base n)) (at : i ≡ lower_than o (records indexed_of 16 w base n)) where
    looked : lookup o (records indexed_of 16 w base n) ≡ hit o (drop i (records indexed_of 16 w base n))
    looked = lookup-hit o 0 (records indexed_of 16 w base n) r ∙ rw at

    pub found-past : n ≤ i → found_of o None ≡ lookup o (records indexed_of 16 w base n)
    found-past h = rw (looked, records-rest_none indexed_of 16 w base n i h)

    module _ (v : ℕ) (h : i < n) (is : v ≡ le_at 8 w (base + i * 16)) where
      pub found-other : (v ≡ o → ⊥) → found_of o None ≡ lookup o (records indexed_of 16 w base n)
      found-other ne =
          rw (looked, records-rest_cons indexed_of 16 w base n i h, indexed-is w (base + i * 16) v _ _ (sym is) refl refl, ne_eqb v o ne)

      pub found_at : (a u : ℕ) → v ≡ o → a ≡ le_at 4 w (base + i * 16 + 8) → u ≡ le_at 4 w (base + i * 16 + 12)
          → found_of o (Some (record { place = a; unit = u })) ≡ lookup o (records indexed_of 16 w base n)
      found_at a u same ea eu =
          rw (looked, records-rest_cons indexed_of 16 w base n i h, indexed-is w (base + i * 16) o a u (sym is ∙ same) (sym ea) (sym eu), eq-eqb o o refl)
