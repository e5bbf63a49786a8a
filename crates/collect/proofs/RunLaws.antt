-- The run over a unit's rows beside the walks that keep only numbers: the counts, the sequences, and the conversion row by row.
use mathlib.Core.Path.{◌≡◌, refl, sym, ap, subst, ◌∙◌}
use mathlib.Core.Bool.{Bool, true, false, cond}
use mathlib.Core.Logic.{◌⊎◌, inl, inr}
use mathlib.Core.List.{List, [], ◌∷◌, ◌++◌, append_assoc}
use mathlib.Core.Option.{Option, none, some}
use Prim.Native.Nat.{ℕ, suc, ◌+◌, ◌≤◌}
use native.Mathlib.Numerals.{add-one}
use native.Mathlib.Omega.{arith}
use lib.Dec.{ltb, eqb}
use lib.ListN.{length, length-append}
use Rattle.tlv.specs.Outcome.{Outcome, refused, done, ◌>>=◌}
use Rattle.tlv.specs.Model.{CompilationUnit, LineHeader, LineRow}
use Rattle.tlv.proofs.OutcomeLaws.{done-is, refused-not, with_done}
use Rattle.lines.specs.Lines.{RawLine, RawSequence, Run, raw_line, start_of, close_sequence, run_rows, Converted, convert_row, convert_rows}
use Rattle.collect.specs.Passes.{Counted, count_rows, start_or, sequences_from, convert_from}

-- ---- the counts

-- where the open sequence starts, once it has a row
abbrev opening : List RawLine → Option ℕ
opening [] = none
opening (x ∷ xs) = some x.address

opening-start : (opened : List RawLine) → start_or (opening opened) 0 ≡ start_of opened
opening-start [] = refl
opening-start (x ∷ xs) = refl

opening_more : (opened : List RawLine) (x : RawLine) → opening (opened ++ (x ∷ [])) ≡ some (start_or (opening opened) x.address)
opening_more [] x = refl
opening_more (y ∷ ys) x = refl

-- the counts k of a run from sequence n on, with l lines before it; `most` bounds their sum
record Counts (l n most : ℕ) (sequences : List RawSequence) (k : Counted) (run : Run) : Type 0 where
  lines : l + length run.lines ≡ k.lines
  count : run.count ≡ k.sequences
  same : run.sequences ≡ sequences
  few : n + length run.sequences ≤ k.sequences
  all : k.lines + k.sequences ≤ most

-- both are refused alike, or the one counts the other
data Counting (l n most : ℕ) (sequences : List RawSequence) : Outcome Counted → Outcome Run → Type 0 where
  no-count : {e : ℕ} → Counting l n most sequences (refused e) (refused e)
  counted : {k : Counted} {run : Run} → Counts l n most sequences k run → Counting l n most sequences (done k) (done run)

counting-refused : {l n most : ℕ} {sequences : List RawSequence} {x : Outcome Counted} {y : Outcome Run} {e : ℕ}
    → Counting l n most sequences x y → x ≡ refused e → y ≡ refused e
counting-refused no-count h = cc
counting-refused (counted a) h = refused-not (sym h)

counting_done : {l n most : ℕ} {sequences : List RawSequence} {x : Outcome Counted} {y : Outcome Run} {k : Counted}
    → Counting l n most sequences x y → x ≡ done k → (run : Run) × (y ≡ done run) × Counts l n most sequences k run
counting_done no-count h = refused-not h
counting_done {l} {n} {most} {sequences} (counted {run = run} a) h = (run, refl, subst (λ (k : Counted). Counts l n most sequences k run) (done-is h) a)

-- a row by its kind: one that could not be read, an end row, any other
counting_row : {l n most : ℕ} {s s' : List RawSequence} {x x' : Outcome Counted} {y y' : Outcome Run} (b c : Bool)
    → Counting l n most s x y → Counting l n most s' x' y'
    → Counting l n most (cond c s s') (cond b (refused 6) (cond c x x')) (cond b (refused 6) (cond c y y'))
counting_row true c e p = no-count
counting_row false true e p = e
counting_row false false e p = p

-- the sequence that an end row closes, where it has one
abbrev closed : Bool → List RawLine → ℕ → ℕ → List RawSequence → List RawSequence
closed b opened end n later = cond b (record { range = record { start = start_of opened; end = end }; sequence = n } ∷ later) later

closed-few : (b : Bool) (opened : List RawLine) (end n : ℕ) (later : List RawSequence) → length (closed b opened end n later) ≤ 1 + length later
closed-few true opened end n later = omega arith
closed-few false opened end n later = omega arith

-- an end row adds the open rows to the later run
close-counts : (l n most : ℕ) (opened : List RawLine) (end : ℕ) (later : List RawSequence) {x : Outcome Counted} {y : Outcome Run}
    → Counting (l + length opened) (suc n) most later x y
    → Counting l n most (closed (ltb (start_of opened) end) opened end n later) x (y >>= λ run. done (close_sequence opened end n run))
unfolding ◌>>=◌
close-counts l n most opened end later no-count = no-count
close-counts l n most opened end later (counted {k = k} {run = run} a) =
    let fewer = closed-few (ltb (start_of opened) end) opened end n run.sequences in
    let small = a.few in
    let total = a.lines in
    counted {k = k} {run = close_sequence opened end n run} (record {
      lines = rw (length-append opened run.lines) (omega arith);
      count = a.count;
      same = ap (closed (ltb (start_of opened) end) opened end n) a.same;
      few = omega arith;
      all = a.all;
    })

count-run : (rows : List LineRow) (l n : ℕ) (opened : List RawLine)
    → Counting l n (l + length opened + n + length rows) (sequences_from rows n (opening opened)) (count_rows rows l (length opened) n) (run_rows rows n opened)
unfolding count_rows run_rows sequences_from
count-run [] l n opened = counted {k = record { lines = l; sequences = n }} {run = record { lines = []; sequences = []; count = n }} (record { lines = omega arith; count = refl; same = refl; few = omega arith; all = omega arith })
count-run (r ∷ rs) l n opened =
    let most = l + length opened + n + suc (length rs) in
    let x = raw_line r n in
    let end-most : l + length opened + 0 + suc n + length rs ≡ most = omega arith in
    let one_more : length (opened ++ (x ∷ [])) ≡ length opened + 1 = rw (length-append opened (x ∷ [])) (omega arith) in
    let plain-most : l + (length opened + 1) + n + length rs ≡ most = omega arith in
    let later = rw end-most at (count-run rs (l + length opened) (suc n) []) in
    counting_row (eqb r.kind 2) (eqb r.kind 1)
    (rw (opening-start opened, add-one n) (close-counts l n most opened r.address (sequences_from rs (suc n) none) later))
    (rw (opening_more opened x, one_more, plain-most) at (count-run rs l n (opened ++ (x ∷ []))))

-- rows whose count is refused are refused alike
pub count-refused : (rows : List LineRow) (n : ℕ) → count_rows rows 0 0 0 ≡ refused n → run_rows rows 0 [] ≡ refused n
count-refused rows n e = counting-refused (count-run rows 0 0 []) e

-- the run of rows that are counted as k
pub record RunCounted (rows : List LineRow) (k : Counted) : Type 0 where
  pub run : Run
  pub is : run_rows rows 0 [] ≡ done run
  pub lines : length run.lines ≡ k.lines
  pub count : run.count ≡ k.sequences
  pub sequences : run.sequences ≡ sequences_from rows 0 none
  pub few : length run.sequences ≤ k.sequences
  pub all : k.lines + k.sequences ≤ length rows

pub count-done : (rows : List LineRow) (k : Counted) → count_rows rows 0 0 0 ≡ done k → RunCounted rows k
count-done rows k e =
    let found = counting_done (count-run rows 0 0 []) e in
    let a = found.2 in
    let lines = a.lines in
    let few = a.few in
    let all = a.all in
    record {
      run = found.0;
      is = found.1;
      lines = omega arith;
      count = a.count;
      sequences = a.same;
      few = omega arith;
      all = omega arith;
    }

-- ---- the conversion

-- a row of a run that is done was read
by_kind : (b c : Bool) {x y : Outcome Run} {run : Run} {P : Type 0} → cond b (refused 6) (cond c x y) ≡ done run
    → (c ≡ true → x ≡ done run → P) → (c ≡ false → y ≡ done run → P) → P
by_kind true c e f g = refused-not e
by_kind false true e f g = f refl e
by_kind false false e f g = g refl e

module _ (u : CompilationUnit) (h : LineHeader) (offsets : List ℕ) where
  -- what a run adds to the open rows is what the walk converts; a run with no end of sequence has no lines
  Converts : List LineRow → ℕ → List RawLine → Run → Type 0
  Converts rows n opened run =
      (run.lines ≡ []) ⊎ ((later : List RawLine) × (run.lines ≡ opened ++ later) × ((c : Converted) → convert_from u h offsets rows n (length later) c ≡ convert_rows u h offsets later c))

  -- none is left
  converted_none : (rows : List LineRow) (n : ℕ) (c : Converted) → convert_from u h offsets rows n 0 c ≡ done c
  unfolding convert_from
  converted_none [] n c = refl
  converted_none (r ∷ rs) n c = refl

  -- with no open row it is the whole run
  converts_all : (rows : List LineRow) (n : ℕ) (run : Run) → Converts rows n [] run → (c : Converted) → convert_from u h offsets rows n (length run.lines) c ≡ convert_rows u h offsets run.lines c
  unfolding Converts convert_rows
  converts_all rows n run (inl e) c = rw e (converted_none rows n c)
  converts_all rows n run (inr (later, e, f)) c = rw e (f c)

  -- a row is converted, and then the others
  then_all : (x : Outcome Converted) (f g : Converted → Outcome Converted) → ((c : Converted) → f c ≡ g c) → (x >>= f) ≡ (x >>= g)
  unfolding ◌>>=◌
  then_all (refused n) f g e = refl
  then_all (done c) f g e = e c

  -- a walk passes an end row
  past_end : (r : LineRow) (rs : List LineRow) (n : ℕ) (later : List RawLine) → eqb r.kind 1 ≡ true
      → ((c : Converted) → convert_from u h offsets rs (suc n) (length later) c ≡ convert_rows u h offsets later c)
      → (c : Converted) → convert_from u h offsets (r ∷ rs) n (length later) c ≡ convert_rows u h offsets later c
  unfolding convert_from convert_rows
  past_end r rs n [] is f c = refl
  past_end r rs n (x ∷ xs) is f c = rw (is, add-one n) (f c)

  -- and converts any other
  past_row : (r : LineRow) (rs : List LineRow) (n : ℕ) (later : List RawLine) → eqb r.kind 1 ≡ false
      → ((c : Converted) → convert_from u h offsets rs n (length later) c ≡ convert_rows u h offsets later c)
      → (c : Converted) → convert_from u h offsets (r ∷ rs) n (suc (length later)) c ≡ convert_rows u h offsets (raw_line r n ∷ later) c
  unfolding convert_from convert_rows
  past_row r rs n later is f c = rw is (then_all (convert_row u h offsets (raw_line r n) c) (convert_from u h offsets rs n (length later)) (convert_rows u h offsets later) f)

  converts : (rows : List LineRow) (n : ℕ) (opened : List RawLine) (run : Run) → run_rows rows n opened ≡ done run → Converts rows n opened run
  unfolding run_rows Converts
  converts [] n opened run e = inl (sym (ap (λ (x : Run). x.lines) (done-is e)))
  converts (r ∷ rs) n opened run e =
      by_kind (eqb r.kind 2) (eqb r.kind 1) e
      (λ is ended. with_done (run_rows rs (suc n) []) (λ run. done (close_sequence opened r.address n run)) ended λ later ran closes.
      inr (later.lines, sym (ap (λ (x : Run). x.lines) (done-is closes)), past_end r rs n later.lines is (converts_all rs (suc n) later (converts rs (suc n) [] later ran))))
      (λ is ran. elim (converts rs n (opened ++ (raw_line r n ∷ [])) run ran) [
        | inl none-ended ↦ inl none-ended
        | inr (later, lines, f) ↦ inr (raw_line r n ∷ later, lines ∙ append_assoc opened (raw_line r n ∷ []) later, past_row r rs n later is f)
      ])

  -- rows after the last end of sequence are not reached
  pub convert_from-is : (rows : List LineRow) (run : Run) (c : Converted) → run_rows rows 0 [] ≡ done run
      → convert_from u h offsets rows 0 (length run.lines) c ≡ convert_rows u h offsets run.lines c
  convert_from-is rows run c e = converts_all rows 0 run (converts rows 0 [] run e) c
