-- The search of a unit's sequences from the first on: for the one that is asked for, and for the first that covers an address.
use mathlib.Core.Path.{◌≡◌, refl, sym, ap, ◌∙◌, subst}
use mathlib.Core.Bool.{Bool, true, false, cond, ◌&&◌, false≢true}
use mathlib.Core.List.{List}
use mathlib.Core.Option.{Option}
use Prim.Native.Nat.{ℕ, zero, suc, ◌+◌, ◌*◌, ◌≤◌, ◌<◌}
use native.Mathlib.Omega.{arith}
use lib.ListN.{length, get_or, drop}
use Rattle.std.specs.Prelude.{Option as Maybe, Some, None}
use Rattle.std.specs.Bool.{MatchBool}
use Rattle.std.specs.List.{range_with_len, AllWithin, HoldsAt}
use Rattle.std.specs.Option.{is_some, MatchOption}
use Rattle.std.proofs.lemmas.List.FromFn.{get_or-range_with_len, length-range_with_len}
use Rattle.tlv.specs.Lists.{first, exists, map_option}
use Rattle.lines.specs.Lines.{LineSequenceRange, same_sequence}
use Rattle.lines.specs.Rows.{contains, belongs, sequence_exists}
use Rattle.rows.specs.declared.unit_lines.StoredLines.{StoredLines}
use Rattle.rows.specs.Sizes.{range_sequence_at, sequence_range_size}
use Rattle.rows.specs.Stored.{sequence_of, stored_sequence, range_at, ranges_of}
use Rattle.rows.specs.Selects.{unit_lines_of, covering_of, FirstAt}
use Rattle.rows.proofs.StoredLaws.{ranges-rest_cons, ranges-rest_none, range-sequence}

-- ---- whether a sequence exists

abbrev pub is_sequence : Option ℕ → LineSequenceRange → Bool
is_sequence s = λ q. same_sequence s q.statement_sequence

either : (b : Bool) {c : Bool} → c ≡ true → cond b true c ≡ true
either true e = refl
either false e = e

-- a test of each sequence of a table
module _ (test : LineSequenceRange → Bool) (w : List ℕ) (base n : ℕ) where
  -- what it says of sequence i
  abbrev pub Says : Bool → ℕ → Type 0
  Says b i = test (range_at w (base + i * sequence_range_size)) ≡ b

  exists-from : (i m j : ℕ) → j + m ≡ i → i < n → Says true i → exists test (drop j (ranges_of w base n)) ≡ true
  unfolding exists
  exists-from i zero j e h f =
      let is : j ≡ i = omega arith in
      rw is (rw (ranges-rest_cons w base n i h, f))
  exists-from i (suc m) j e h f = rw (ranges-rest_cons w base n j (omega arith)) (either (test (range_at w (base + j * sequence_range_size))) (exists-from i m (j + 1) (omega arith) h f))

  exists-past : (i : ℕ) → i ≤ n → ((k : ℕ) → k < i → Says false k) → exists test (ranges_of w base n) ≡ exists test (drop i (ranges_of w base n))
  unfolding exists
  exists-past zero h f = refl
  exists-past (suc i) h f =
      let next : i + 1 ≡ suc i = omega arith in
      exists-past i (omega arith) (λ k l. f k (omega arith))
      ∙ rw (ranges-rest_cons w base n i (omega arith), f i (omega arith)) (ap (λ (k : ℕ). exists test (drop k (ranges_of w base n))) next)

  counted : (k d : ℕ) → k < n → get_or (range_with_len 0 n) k d ≡ k
  counted k d h = get_or-range_with_len 0 n k d h ∙ (omega arith)

  exists-none : ((k : ℕ) → k < n → Says false k) → exists test (ranges_of w base n) ≡ false
  unfolding exists
  exists-none f = exists-past n (omega arith) f ∙ rw (ranges-rest_none w base n n (omega arith)) refl

  -- `any` over the numbers of the sequences
  pub exists-any : (r : Bool) → MatchBool r ((k : ℕ) × (k < length (range_with_len 0 n)) × HoldsAt (Says true) (range_with_len 0 n) k)
      (AllWithin (Says false) (range_with_len 0 n) 0 (length (range_with_len 0 n))) → exists test (ranges_of w base n) ≡ r
  exists-any true (k, h, f) =
      let few : length (range_with_len 0 n) ≡ n = length-range_with_len 0 n in
      let less : k < n = omega arith in
      exists-from k k 0 (omega arith) less (subst (Says true) (counted k 0 less) (f 0))
  exists-any false f =
      let few : length (range_with_len 0 n) ≡ n = length-range_with_len 0 n in
      exists-none λ k l. subst (Says false) (counted k 0 l) (f k 0 (omega arith) (omega arith))

  first-past : (i : ℕ) → i ≤ n → ((k : ℕ) → k < i → Says false k) → first test (ranges_of w base n) ≡ first test (drop i (ranges_of w base n))
  unfolding first
  first-past zero h f = refl
  first-past (suc i) h f =
      let next : i + 1 ≡ suc i = omega arith in
      first-past i (omega arith) (λ k l. f k (omega arith))
      ∙ rw (ranges-rest_cons w base n i (omega arith), f i (omega arith)) (ap (λ (k : ℕ). first test (drop k (ranges_of w base n))) next)

  -- `find` over the numbers of the sequences
  pub first-at : (r : Maybe ℕ) → MatchOption r ((k : ℕ) → 0 ≤ k → k < n → Says false k) (λ i. (0 ≤ i) × (i < n) × Says true i × ((k : ℕ) → 0 ≤ k → k < i → Says false k))
      → FirstAt test w base n r
  unfolding first
  first-at None f = first-past n (omega arith) (λ k h. f k (omega arith) h) ∙ rw (ranges-rest_none w base n n (omega arith)) refl
  first-at (Some i) (low, h, f, before) = (h, first-past i (omega arith) (λ k l. before k (omega arith) l) ∙ rw (ranges-rest_cons w base n i h, f) refl)

-- the same of an answer to what was requested
pub exists-is : (w : List ℕ) (l : StoredLines) (requested : Maybe ℕ) {t : Bool} → is_some requested ≡ true
    → exists (is_sequence (sequence_of requested)) (ranges_of w l.sequences.base l.sequences.count) ≡ t → t ≡ sequence_exists (unit_lines_of w l) (sequence_of requested)
unfolding unit_lines_of
exists-is w l None h e = absurd (false≢true h)
exists-is w l (Some m) h e = sym e

-- ---- the first sequence that covers an address

abbrev pub covers_at : Option ℕ → ℕ → LineSequenceRange → Bool
covers_at s a = λ q. belongs s q.statement_sequence && contains q.range a

-- the sequence that was found
pub covering-found : (w : List ℕ) (base n : ℕ) (test : LineSequenceRange → Bool) (own : Maybe ℕ) {i : ℕ} → FirstAt test w base n (Some i)
    → sequence_of own ≡ stored_sequence w (base + i * sequence_range_size + range_sequence_at) → covering_of (Some own) (first test (ranges_of w base n))
unfolding map_option
covering-found w base n test own {i = i} f q = rw (f.1, range-sequence w (base + i * sequence_range_size), q)
