-- Rows compacted where they are: what the loop keeps, over a list of rows.
use mathlib.Core.Path.{◌≡◌, refl, sym, ap, ◌∙◌}
use mathlib.Core.Bool.{Bool, true, false}
use mathlib.Core.List.{List, [], ◌∷◌, ◌++◌, append_assoc, append-nil}
use Prim.Native.Nat.{ℕ, ◌+◌, ◌-◌, ◌≤◌, ◌<◌}
use native.Mathlib.Numerals.{add-one}
use native.Mathlib.Omega.{arith}
use lib.ListN.{length, take, drop, get_or, set, length-set, take-append-drop, drop_of_length-le}
use lib.Seq.{length-take-le, drop-cons, take-suc-set, drop-set-lt, drop-drop, get_or-drop, get_or-set_same}
use Rattle.tlv.specs.declared.model.LineEntry.{LineEntry}
use Rattle.lines.specs.Lines.{same_line, drop_after, drop_neighbours}
use Rattle.lines.specs.Rows.{compact_line_rows}
use Rattle.normalize.specs.Compacts.{CompactsRows}

-- ---- the loop, of any list

module _ {A : Type 0} (equal : A → A → Bool) where
  after_same : (x y : A) (l : List A) → equal x y ≡ true → drop_after equal x l ≡ drop_after equal x (y ∷ l)
  unfolding drop_after
  after_same x y l e = rw e

  after-other : (x y : A) (l : List A) → equal x y ≡ false → y ∷ drop_after equal y l ≡ drop_after equal x (y ∷ l)
  unfolding drop_after
  after-other x y l e = rw e

  after_none : (x : A) (l : List A) → l ≡ [] → drop_after equal x l ≡ []
  unfolding drop_after
  after_none x l e = rw e

  module _ (d : A) where
    -- of the first i of `before`, those up to `last` are left; nothing past `last` was written
    pub record Dropping (before after : List A) (last i : ℕ) : Type 0 where
      pub order : last < i
      pub within : i ≤ length before
      pub rows : take (last + 1) after ++ drop_after equal (get_or after last d) (drop i before) ≡ drop_neighbours equal before
      pub rest : drop (last + 1) after ≡ drop (last + 1) before
      pub size : length after ≡ length before

    pub dropping-start : (before : List A) → 0 < length before → Dropping before before 0 1
    unfolding drop_neighbours
    dropping-start [] h = absurd (omega arith)
    dropping-start (x ∷ xs) h = record { order = omega arith; within = omega arith; rows = refl; rest = refl; size = refl }

module _ {A : Type 0} {equal : A → A → Bool} {d : A} {before after : List A} {last i : ℕ} (w : Dropping equal d before after last i) where
  module _ (less : i < length before) where
    -- what is read at i is still what stood there
    row-i : get_or after i d ≡ get_or before i d
    row-i =
        let k : ℕ = i - (last + 1) in
        let e : i ≡ last + 1 + k = omega (arith, w.order) in
        ap (λ (j : ℕ). get_or after j d) e ∙ sym (get_or-drop (last + 1) after k d) ∙ ap (λ (l : List A). get_or l k d) w.rest ∙ get_or-drop (last + 1) before k d ∙ ap (λ (j : ℕ). get_or before j d) (sym e)

    next-i : get_or after i d ∷ drop (i + 1) before ≡ drop i before
    next-i = rw (add-one i, row-i) (sym (drop-cons before i d less))

    pub dropping_same : equal (get_or after last d) (get_or after i d) ≡ true → Dropping equal d before after last (i + 1)
    dropping_same e = record {
      order = omega (arith, w.order);
      within = omega arith;
      rows =
          ap (λ (l : List A). take (last + 1) after ++ l) (after_same equal (get_or after last d) (get_or after i d) (drop (i + 1) before) e ∙ ap (drop_after equal (get_or after last d)) next-i)
          ∙ w.rows;
      rest = w.rest;
      size = w.size;
    }

    pub dropping-other : equal (get_or after last d) (get_or after i d) ≡ false → Dropping equal d before (set after (last + 1) (get_or after i d)) (last + 1) (i + 1)
    dropping-other e =
        let x : A = get_or after i d in
        let h : last + 1 < length after = omega (arith, w.order, w.size) in
        record {
          order = omega (arith, w.order);
          within = omega arith;
          rows =
              rw (add-one (last + 1), take-suc-set after (last + 1) x h, get_or-set_same after (last + 1) x d h)
              (append_assoc (take (last + 1) after) (x ∷ []) (drop_after equal x (drop (i + 1) before))
              ∙ ap (λ (l : List A). take (last + 1) after ++ l) (after-other equal (get_or after last d) x (drop (i + 1) before) e ∙ ap (drop_after equal (get_or after last d)) next-i)
              ∙ w.rows);
          rest =
              drop-set-lt (last + 1 + 1) after (last + 1) x (omega arith) ∙ sym (drop-drop 1 (last + 1) after) ∙ ap (drop 1) w.rest ∙ drop-drop 1 (last + 1) before;
          size = length-set after (last + 1) x ∙ w.size;
        }

  pub dropped : length before ≤ i → take (last + 1) after ≡ drop_neighbours equal before
  dropped h =
      sym (append-nil (take (last + 1) after)) ∙ ap (λ (l : List A). take (last + 1) after ++ l) (sym (after_none equal (get_or after last d) (drop i before) (drop_of_length-le before h))) ∙ w.rows

-- ---- of a function's rows

-- what an index past the end would give: no read is there
abbrev pub none : LineEntry
none = record { address = 0; file = record { 0 = 0 }; line = 0; column = 0 }

pub compacts_none : (before : List LineEntry) → length before ≡ 0 → CompactsRows before before 0
unfolding compact_line_rows drop_neighbours
compacts_none [] e = record { count = refl; rows = refl }
compacts_none (x ∷ xs) e = absurd (omega arith)

pub compacts : {d : LineEntry} {before after : List LineEntry} {last i : ℕ} → Dropping same_line d before after last i → length before ≤ i → CompactsRows before after (last + 1)
unfolding compact_line_rows
compacts {after = after} {last = last} w h = record {
  count = sym (length-take-le (last + 1) after (omega (arith, w.order, w.within, w.size))) ∙ ap length (dropped w h);
  rows = sym (take-append-drop (last + 1) after) ∙ (λ k. dropped w h k ++ w.rest k);
}
