-- The loop from the front of a table: its turns, that it needs nothing behind the row where it ends, that rows below the range may be passed over, and that
-- of sorted rows it takes those of the range.
use mathlib.Core.Path.{◌≡◌, refl, sym, ap, ◌∙◌}
use mathlib.Core.Bool.{Bool, true, false, cond, ◌&&◌}
use mathlib.Core.List.{List, [], ◌∷◌, map, cons≢nil}
use mathlib.Core.Option.{Option}
use Prim.Native.Nat.{ℕ, zero, suc, ◌+◌, ◌≤◌, ◌<◌}
use native.Mathlib.Omega.{arith}
use lib.ListN.{length, take, drop, get_or}
use lib.Dec.{leb}
use borrow.Author.Tests.{lt-ltb, le-ltb, le-leb, lt-leb}
use Rattle.tlv.specs.declared.model.AddressRange.{AddressRange}
use Rattle.tlv.specs.declared.model.LineEntry.{LineEntry}
use Rattle.tlv.specs.Lists.{filter}
use Rattle.tlv.proofs.TestLaws.{by_less}
use Rattle.tlv.proofs.ListLaws.{all_map}
use Rattle.lines.specs.Lines.{SequencedLine}
use Rattle.lines.specs.Rows.{contains, belongs, own_rows}
use Rattle.rows.specs.declared.unit_lines.StoredLines.{StoredLines}
use Rattle.rows.specs.Stored.{sequence_of, entries_of, lines_of}
use Rattle.rows.specs.Sorts.{Sorted, leading}
use Rattle.rows.specs.Front.{FrontRows, pass_row, front_rows, Local, SameRows}
use Rattle.rows.specs.Selects.{RowsBelow, OwnedAlike}
use Rattle.rows.proofs.LeadingLaws.{leading_length, sorted_all}
use Rattle.rows.proofs.StoredLaws.{lines-length, entries-length}
use Rattle.rows.proofs.FilterLaws.{filter_none}

abbrev pub in_range : AddressRange → Option ℕ → SequencedLine → Bool
in_range r s = λ x. contains r x.entry.address && belongs s x.statement_sequence

-- ---- a turn

module _ (r : AddressRange) (s : Option ℕ) (x : SequencedLine) (xs : List SequencedLine) where
  pub front_ends : r.end ≤ x.entry.address → front_rows r s (x ∷ xs) ≡ record { rows = []; past = 0 }
  unfolding front_rows
  front_ends h = rw (le-leb r.end x.entry.address h)

  front-passes : x.entry.address < r.end → front_rows r s (x ∷ xs) ≡ pass_row (in_range r s x) x (front_rows r s xs)
  unfolding front_rows
  front-passes h = rw (lt-leb r.end x.entry.address h)

  in-range : x.entry.address < r.end → in_range r s x ≡ (leb r.start x.entry.address && belongs s x.statement_sequence)
  unfolding contains
  in-range h = rw (lt-ltb x.entry.address r.end h) (go (leb r.start x.entry.address))
    where
      go : (b : Bool) → ((b && true) && belongs s x.statement_sequence) ≡ (b && belongs s x.statement_sequence)
      go true = refl
      go false = refl

  module _ {t : Bool} (h : x.entry.address < r.end) (e : t ≡ (leb r.start x.entry.address && belongs s x.statement_sequence)) where
    pub front_takes : t ≡ true → front_rows r s (x ∷ xs) ≡ record { rows = x.entry ∷ (front_rows r s xs).rows; past = suc (front_rows r s xs).past }
    front_takes y = front-passes h ∙ rw (in-range h, ← e, y)

    pub front_skips : t ≡ false → front_rows r s (x ∷ xs) ≡ record { rows = (front_rows r s xs).rows; past = suc (front_rows r s xs).past }
    front_skips n = front-passes h ∙ rw (in-range h, ← e, n)

-- ---- nothing behind the row where it ends counts

pass_past : (b : Bool) (x : SequencedLine) (f : FrontRows) → (pass_row b x f).past ≡ suc f.past
pass_past true x f = refl
pass_past false x f = refl

-- one turn, with what the tests answer
abbrev turn : Bool → Bool → SequencedLine → FrontRows → FrontRows
turn b c x f = cond b (record { rows = []; past = 0 }) (pass_row c x f)

pub local : Local
unfolding front_rows
local r s [] ys h e = absurd (omega arith)
local r s (x ∷ xs) [] h e = absurd (cons≢nil (sym e))
local r s (x ∷ xs) (y ∷ ys) h e =
    rw (ap (λ (l : List SequencedLine). get_or l 0 x) e)
    (go (leb r.end x.entry.address) (in_range r s x) (local r s xs ys) h (ap (drop 1) e))
  where
    go : (b c : Bool)
        → ((front_rows r s xs).past < length xs → take (suc (front_rows r s xs).past) ys ≡ take (suc (front_rows r s xs).past) xs
        → front_rows r s ys ≡ front_rows r s xs)
        → (turn b c x (front_rows r s xs)).past < suc (length xs)
        → take (turn b c x (front_rows r s xs)).past ys ≡ take (turn b c x (front_rows r s xs)).past xs
        → turn b c x (front_rows r s ys) ≡ turn b c x (front_rows r s xs)
    go true c later h e = refl
    go false c later h e =
        let p : (pass_row c x (front_rows r s xs)).past ≡ suc (front_rows r s xs).past = pass_past c x (front_rows r s xs) in
        ap (pass_row c x) (later (omega (arith, rw p at h)) (rw p at e))

-- ---- rows below the range at the front

leading_step : (a : ℕ) (x : SequencedLine) (xs : List SequencedLine) (i : ℕ) → suc i ≤ leading a (x ∷ xs) → (x.entry.address < a) × (i ≤ leading a xs)
unfolding leading
leading_step a x xs i h =
    by_less _ x.entry.address a
    (λ l. let g = rw (lt-ltb x.entry.address a l) at h in (l, omega arith))
    (λ l. let g = rw (le-ltb x.entry.address a l) at h in absurd (omega arith))

too_low : (r : AddressRange) (s : Option ℕ) (x : SequencedLine) → x.entry.address < r.start → in_range r s x ≡ false
unfolding contains
too_low r s x h = rw (lt-leb r.start x.entry.address h)

too_high : (r : AddressRange) (s : Option ℕ) (x : SequencedLine) → r.end ≤ x.entry.address → in_range r s x ≡ false
unfolding contains
too_high r s x h = rw (le-ltb x.entry.address r.end h) (neither (leb r.start x.entry.address))
  where
    neither : (b : Bool) → ((b && false) && belongs s x.statement_sequence) ≡ false
    neither true = refl
    neither false = refl

pub front_below : (r : AddressRange) (s : Option ℕ) (xs : List SequencedLine) (i : ℕ) → i ≤ leading r.start xs → i ≤ leading r.end xs
    → front_rows r s xs ≡ record { rows = (front_rows r s (drop i xs)).rows; past = i + (front_rows r s (drop i xs)).past }
front_below r s xs zero h g =
    let z : (front_rows r s xs).past ≡ 0 + (front_rows r s xs).past = omega arith in
    λ j. record { rows = (front_rows r s xs).rows; past = z j }
front_below r s [] (suc i) h g = absurd (omega (arith, leading_length r.start []))
front_below r s (x ∷ xs) (suc i) h g =
    let low = leading_step r.start x xs i h in
    let near = leading_step r.end x xs i g in
    let rest = front_below r s xs i low.1 near.1 in
    let z : suc (i + (front_rows r s (drop i xs)).past) ≡ suc i + (front_rows r s (drop i xs)).past = omega arith in
    front-passes r s x xs near.0 ∙ rw (too_low r s x low.0) (λ j. record { rows = (rest j).rows; past = suc (rest j).past })
    ∙ (λ j. record { rows = (front_rows r s (drop i xs)).rows; past = z j })

-- fewer rows are below a lower address
leading-mono : (a b : ℕ) (xs : List SequencedLine) → a ≤ b → leading a xs ≤ leading b xs
unfolding leading
leading-mono a b [] h = omega arith
leading-mono a b (x ∷ xs) h =
    let rest = leading-mono a b xs h in
    by_less _ x.entry.address a
    (λ l. let m : x.entry.address < b = omega arith in rw (lt-ltb x.entry.address a l, lt-ltb x.entry.address b m) (omega arith))
    (λ l. rw (le-ltb x.entry.address a l) (omega arith))

module _ (w : List ℕ) (l : StoredLines) (range : AddressRange) where
  pub none_below : RowsBelow w l range 0
  none_below = record { start = omega arith; end = omega arith }

  pub start-below : {n : ℕ} → range.start ≤ range.end → n ≡ leading range.start (lines_of w l.lines.base l.lines.count) → RowsBelow w l range n
  start-below h e = record { start = omega arith; end = omega (arith, leading-mono range.start range.end (lines_of w l.lines.base l.lines.count) h) }

-- ---- of sorted rows

front-sorted : (r : AddressRange) (s : Option ℕ) (k : ℕ) (xs : List SequencedLine) → Sorted k xs
    → (front_rows r s xs).rows ≡ map (λ x. x.entry) (filter (in_range r s) xs)
unfolding front_rows filter
front-sorted r s k [] t = refl
front-sorted r s k (x ∷ xs) t =
    by_less _ x.entry.address r.end
    (λ l. ap (λ (f : FrontRows). f.rows) (front-passes r s x xs l) ∙ go (in_range r s x) (front-sorted r s x.entry.address xs t.1))
    (λ l.
    let high = all_map xs (too_high r s) (sorted_all r.end x.entry.address xs t.1 l) in
    let none : filter (in_range r s) (x ∷ xs) ≡ [] = filter_none (in_range r s) (x ∷ xs) (too_high r s x l, high) in
    ap (λ (f : FrontRows). f.rows) (front_ends r s x xs l) ∙ sym (ap (map (λ x. x.entry)) none))
  where
    go : (c : Bool) → (front_rows r s xs).rows ≡ map (λ x. x.entry) (filter (in_range r s) xs)
        → (pass_row c x (front_rows r s xs)).rows ≡ map (λ x. x.entry) (cond c (x ∷ filter (in_range r s) xs) (filter (in_range r s) xs))
    go true e = ap (λ (l : List LineEntry). x.entry ∷ l) e
    go false e = e

pub same_rows : SameRows
unfolding own_rows
same_rows l r s t = front-sorted r s 0 l.entries t

-- ---- the function's answers

pub owned_alike : OwnedAlike
owned_alike w w' v v' l m range asked to at r q O P h e =
    let xs : List SequencedLine = lines_of w l.lines.base l.lines.count in
    let ys : List SequencedLine = lines_of v m.lines.base m.lines.count in
    let same : front_rows range (sequence_of asked) ys ≡ front_rows range (sequence_of asked) xs =
    local range (sequence_of asked) xs ys (rw (lines-length w l.lines.base l.lines.count, ← O.past) h) (rw (← O.past) e) in
    let rows : entries_of v' at q.count ≡ entries_of w' to r.count = P.rows ∙ ap (λ (f : FrontRows). f.rows) same ∙ sym O.rows in (
      P.past ∙ ap (λ (f : FrontRows). f.past) same ∙ sym O.past,
      sym (entries-length v' at q.count) ∙ ap length rows ∙ entries-length w' to r.count,
      rows,
    )
