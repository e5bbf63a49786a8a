-- Rows and sequences in a list of bytes: their fields, what the writes make of them, and the laws of their tables.
use mathlib.Core.Path.{◌≡◌, refl, sym, ap, ◌∙◌}
use mathlib.Core.Logic.{inl, inr}
use mathlib.Core.Bool.{cond}
use mathlib.Core.List.{List, [], ◌∷◌, ◌++◌}
use mathlib.Core.Option.{none, some}
use Prim.Native.Nat.{ℕ, ◌+◌, ◌*◌, ◌≤◌, ◌<◌}
use native.Mathlib.Omega.{arith}
use lib.Dec.{eqb}
use lib.ListN.{length, take, drop, get_or}
use lib.Seq.{drop-drop}
use Rattle.std.specs.Prelude.{Option as Maybe, Some, None}
use Rattle.std.specs.Option.{option_eq}
use Rattle.tlv.specs.declared.model.AddressRange.{AddressRange}
use Rattle.tlv.specs.declared.model.LineEntry.{LineEntry}
use Rattle.tlv.specs.Bytes.{le_at}
use Rattle.tlv.specs.Model.{range_of as range_at_front}
use Rattle.buffers.specs.Table.{chunk, records, Apart, Kept, Clear, KeptBut, Wrote, PutRange, CopiedBytes}
use Rattle.buffers.specs.Options.{numbers_of, option_at, PutOption}
use Rattle.buffers.proofs.ChunkLaws.{le_at-chunk, le_at-front}
use Rattle.buffers.proofs.TableLaws.{le_at-kept, kept-wide, kept_trans}
use Rattle.buffers.proofs.RecordLaws.{records-length, records-nil, records-at, records-suc, records-add, records-part, records-rest_none, records-rest_cons, records-kept, records-but, records-push, records-copy_push, tab-take}
use Rattle.lines.specs.Lines.{LineSequenceRange, same_sequence}
use Rattle.rows.specs.Sizes.{column_at, entry_size, line_size, range_sequence_at, sequence_range_size, sequence_size}
use Rattle.rows.specs.Stored.{sequence_of, stored_sequence, entry_of, entries_of, line_of, line_at, lines_of, range_of, range_at, ranges_of, PutEntry, PutLine, PutSequenceRange}

-- ---- a sequence

-- the code's `==`
pub same-is : (a b : Maybe ℕ) → option_eq eqb a b ≡ same_sequence (sequence_of a) (sequence_of b)
same-is None None = refl
same-is None (Some n) = refl
same-is (Some m) None = refl
same-is (Some m) (Some n) = refl

-- as it is written and read
code-is : (s : Maybe ℕ) → numbers_of (λ n. n) s ≡ sequence_of s
code-is None = refl
code-is (Some n) = refl

pub sequence-got : (w : List ℕ) (p : ℕ) (s : Maybe ℕ) → numbers_of (λ n. n) s ≡ option_at 8 w p → sequence_of s ≡ stored_sequence w p
unfolding stored_sequence
sequence-got w p s e = sym (code-is s) ∙ e

sequence-put : {w w' : List ℕ} {p : ℕ} (s : Maybe ℕ) → PutOption w w' p 8 (numbers_of (λ n. n) s) → stored_sequence w' p ≡ sequence_of s
unfolding stored_sequence
sequence-put s P = P.value ∙ code-is s

-- in a record it is as in the table
stored-chunk : (w : List ℕ) (p m i : ℕ) → i + sequence_size ≤ m → stored_sequence (chunk w p m) i ≡ stored_sequence w (p + i)
unfolding stored_sequence option_at
stored-chunk w p m i h =
    let e : p + (i + 1) ≡ p + i + 1 = omega arith in
    (λ k. cond (eqb (le_at-chunk 1 w p m i (omega arith) k) 1) (some (le_at-chunk 8 w p m (i + 1) (omega arith) k)) none)
    ∙ ap (λ (q : ℕ). cond (eqb (le_at 1 w (p + i)) 1) (some (le_at 8 w q)) none) e

pub sequence-kept : {w w' : List ℕ} {p m : ℕ} (q : ℕ) → Kept w w' p m → Apart q sequence_size p m → stored_sequence w' q ≡ stored_sequence w q
unfolding stored_sequence option_at
sequence-kept q K (inl h) = λ k. cond (eqb (le_at-kept 1 q K (inl (omega arith)) k) 1) (some (le_at-kept 8 (q + 1) K (inl (omega arith)) k)) none
sequence-kept q K (inr h) = λ k. cond (eqb (le_at-kept 1 q K (inr (omega arith)) k) 1) (some (le_at-kept 8 (q + 1) K (inr (omega arith)) k)) none

-- ---- the fields of a row and of a sequence, where they stand

module _ (w : List ℕ) (p : ℕ) where
  -- a row of a function, of a record that is as long or longer
  entry-of : (m : ℕ) → entry_size ≤ m → entry_of (chunk w p m) ≡ record {
    address = le_at 8 w p;
    file = record {
      0 = le_at 4 w (p + 8);
    };
    line = le_at 4 w (p + 12);
    column = le_at 2 w (p + column_at);
  }
  unfolding entry_of
  entry-of m h = λ i. record { address = le_at-front 8 w p m (omega arith) i; file = record { 0 = le_at-chunk 4 w p m 8 (omega arith) i }; line = le_at-chunk 4 w p m 12 (omega arith) i; column = le_at-chunk 2 w p m column_at (omega arith) i }

  pub entry-is : entry_of (chunk w p entry_size) ≡ record { address = le_at 8 w p; file = record { 0 = le_at 4 w (p + 8) }; line = le_at 4 w (p + 12); column = le_at 2 w (p + column_at) }
  entry-is = entry-of entry_size (omega arith)

  pub entry-address : (entry_of (chunk w p entry_size)).address ≡ le_at 8 w p
  entry-address = ap (λ (l : LineEntry). l.address) entry-is

  pub entry-file : (entry_of (chunk w p entry_size)).file.0 ≡ le_at 4 w (p + 8)
  entry-file = ap (λ (l : LineEntry). l.file.0) entry-is

  pub entry-line : (entry_of (chunk w p entry_size)).line ≡ le_at 4 w (p + 12)
  entry-line = ap (λ (l : LineEntry). l.line) entry-is

  -- a unit's row begins as a function's
  pub line-entry : (line_at w p).entry ≡ entry_of (chunk w p entry_size)
  unfolding line_at line_of
  line-entry = entry-of line_size (omega arith) ∙ sym entry-is

  pub line-address : (line_at w p).entry.address ≡ le_at 8 w p
  line-address = ap (λ (l : LineEntry). l.address) line-entry ∙ entry-address

  pub line-sequence : (line_at w p).statement_sequence ≡ stored_sequence w (p + entry_size)
  unfolding line_at line_of
  line-sequence = stored-chunk w p line_size entry_size (omega arith)

  pub line-is : line_at w p ≡ record { entry = entry_of (chunk w p entry_size); statement_sequence = stored_sequence w (p + entry_size) }
  line-is = λ i. record { entry = line-entry i; statement_sequence = line-sequence i }

  pub range-is : range_at w p ≡ record {
    range = record {
      start = le_at 8 w p;
      end = le_at 8 w (p + 8);
    };
    statement_sequence = stored_sequence w (p + range_sequence_at);
  }
  unfolding range_at range_of
  range-is = λ i. record { range = record { start = le_at-front 8 w p sequence_range_size (omega arith) i; end = le_at-chunk 8 w p sequence_range_size 8 (omega arith) i }; statement_sequence = stored-chunk w p sequence_range_size range_sequence_at (omega arith) i }

  -- its addresses are the range at the front of what stands there
  le-front : (k j : ℕ) → le_at k w (p + j) ≡ le_at k (drop p w) j
  unfolding le_at
  le-front k j = rw (drop-drop j p w)

  pub range-front : (range_at w p).range ≡ range_at_front (drop p w)
  unfolding range_at_front
  range-front =
      let here : p ≡ p + 0 = omega arith in
      let start : le_at 8 w p ≡ le_at 8 (drop p w) 0 = ap (le_at 8 w) here ∙ le-front 8 0 in
      ap (λ (q : LineSequenceRange). q.range) range-is ∙ (λ i. record { start = start i; end = le-front 8 8 i })

  pub range-sequence : (range_at w p).statement_sequence ≡ stored_sequence w (p + range_sequence_at)
  range-sequence = ap (λ (q : LineSequenceRange). q.statement_sequence) range-is

-- a row that was read field by field
pub got-entry : (w : List ℕ) (p : ℕ) {a f l k : ℕ} → a ≡ le_at 8 w p → f ≡ le_at 4 w (p + 8) → l ≡ le_at 4 w (p + 12) → k ≡ le_at 2 w (p + column_at)
    → record { address = a; file = record { 0 = f }; line = l; column = k } ≡ entry_of (chunk w p entry_size)
got-entry w p a f l k = (λ i. record { address = a i; file = record { 0 = f i }; line = l i; column = k i }) ∙ sym (entry-is w p)

pub got-address : (w : List ℕ) (p : ℕ) {a : ℕ} → a ≡ le_at 8 w p → a ≡ (line_at w p).entry.address
got-address w p a = a ∙ sym (line-address w p)

-- ---- what the writes make of them

pub put-entry : {w w₁ w₂ w₃ w₄ : List ℕ} {p : ℕ} {l : LineEntry} → Wrote w w₁ p 8 l.address → Wrote w₁ w₂ (p + 8) 4 l.file.0 → Wrote w₂ w₃ (p + 12) 4 l.line
    → Wrote w₃ w₄ (p + column_at) 2 l.column → PutEntry w w₄ p l
put-entry {w} {w₁} {w₂} {w₃} {w₄} {p} {l} A F L C =
    let ea : le_at 8 w₄ p ≡ l.address = le_at-kept 8 p C.rest (inl (omega arith)) ∙ le_at-kept 8 p L.rest (inl (omega arith)) ∙ le_at-kept 8 p F.rest (inl (omega arith)) ∙ A.value in
    let ef : le_at 4 w₄ (p + 8) ≡ l.file.0 = le_at-kept 4 (p + 8) C.rest (inl (omega arith)) ∙ le_at-kept 4 (p + 8) L.rest (inl (omega arith)) ∙ F.value in
    let el : le_at 4 w₄ (p + 12) ≡ l.line = le_at-kept 4 (p + 12) C.rest (inl (omega arith)) ∙ L.value in
    record {
      entry = entry-is w₄ p ∙ (λ i. record { address = ea i; file = record { 0 = ef i }; line = el i; column = C.value i });
      rest =
          kept_trans (kept-wide p entry_size A.rest (omega arith) (omega arith))
          (kept_trans (kept-wide p entry_size F.rest (omega arith) (omega arith))
          (kept_trans (kept-wide p entry_size L.rest (omega arith) (omega arith)) (kept-wide p entry_size C.rest (omega arith) (omega arith))));
    }

pub put-line : {w w₁ w₂ : List ℕ} {p : ℕ} {l : LineEntry} {s : Maybe ℕ} → PutEntry w w₁ p l → PutOption w₁ w₂ (p + entry_size) 8 (numbers_of (λ n. n) s)
    → PutLine w w₂ p l s
put-line {w} {w₁} {w₂} {p} {l} {s} E S = record {
  line = line-is w₂ p ∙ (λ i. record { entry = (ap entry_of (S.rest.same p entry_size (inl (omega arith))) ∙ E.entry) i; statement_sequence = sequence-put s S i });
  rest = kept_trans (kept-wide p line_size E.rest (omega arith) (omega arith)) (kept-wide p line_size S.rest (omega arith) (omega arith));
}

pub put-range : {w w₁ w₂ : List ℕ} {p : ℕ} {r : AddressRange} {s : Maybe ℕ} → PutRange w w₁ p r → PutOption w₁ w₂ (p + range_sequence_at) 8 (numbers_of (λ n. n) s)
    → PutSequenceRange w w₂ p r s
unfolding range_at_front
put-range {w} {w₁} {w₂} {p} {r} {s} A S =
    let kept : range_at_front (chunk w₂ p 16) ≡ r = ap range_at_front (S.rest.same p 16 (inl (omega arith))) ∙ A.value in
    let ea : le_at 8 w₂ p ≡ r.start = sym (le_at-front 8 w₂ p 16 (omega arith)) ∙ ap (λ (x : AddressRange). x.start) kept in
    let eb : le_at 8 w₂ (p + 8) ≡ r.end = sym (le_at-chunk 8 w₂ p 16 8 (omega arith)) ∙ ap (λ (x : AddressRange). x.end) kept in
    record {
      range = range-is w₂ p ∙ (λ i. record { range = record { start = ea i; end = eb i }; statement_sequence = sequence-put s S i });
      rest = kept_trans (kept-wide p sequence_range_size A.rest (omega arith) (omega arith)) (kept-wide p sequence_range_size S.rest (omega arith) (omega arith));
    }

-- ---- tables of a unit's rows

pub lines-length : (w : List ℕ) (b n : ℕ) → length (lines_of w b n) ≡ n
unfolding lines_of
lines-length = records-length line_of line_size

pub lines-nil : (w : List ℕ) (b : ℕ) → lines_of w b 0 ≡ []
unfolding lines_of
lines-nil = records-nil line_of line_size

pub lines-suc : (w : List ℕ) (b n : ℕ) → lines_of w b (n + 1) ≡ lines_of w b n ++ (line_at w (b + n * line_size) ∷ [])
unfolding lines_of line_at
lines-suc = records-suc line_of line_size

pub lines-add : (w : List ℕ) (b i m : ℕ) → lines_of w b (i + m) ≡ lines_of w b i ++ lines_of w (b + i * line_size) m
unfolding lines_of
lines-add = records-add line_of line_size

pub lines-part : (w : List ℕ) (b n i m : ℕ) → i + m ≤ n → lines_of w (b + i * line_size) m ≡ take m (drop i (lines_of w b n))
unfolding lines_of
lines-part = records-part line_of line_size

pub lines-take : (w : List ℕ) (b n i : ℕ) → i ≤ n → take i (lines_of w b n) ≡ lines_of w b i
unfolding lines_of records
lines-take w b n i h = tab-take n (λ j. line_of (chunk w (b + j * line_size) line_size)) i h

pub lines-rest_none : (w : List ℕ) (b n x : ℕ) → n ≤ x → drop x (lines_of w b n) ≡ []
unfolding lines_of
lines-rest_none = records-rest_none line_of line_size

pub lines-rest_cons : (w : List ℕ) (b n x : ℕ) → x < n → drop x (lines_of w b n) ≡ line_at w (b + x * line_size) ∷ drop (x + 1) (lines_of w b n)
unfolding lines_of line_at
lines-rest_cons = records-rest_cons line_of line_size

pub lines-kept : {w w' : List ℕ} {p m : ℕ} (b n : ℕ) → Kept w w' p m → Apart b (n * line_size) p m → lines_of w' b n ≡ lines_of w b n
unfolding lines_of
lines-kept = records-kept line_of line_size

pub lines-but : {w w' : List ℕ} {rs : List (ℕ × ℕ)} (b n : ℕ) → KeptBut w w' rs → Clear b (n * line_size) rs → lines_of w' b n ≡ lines_of w b n
unfolding lines_of
lines-but = records-but line_of line_size

pub line_kept : {w w' : List ℕ} {p m : ℕ} (q : ℕ) → Kept w w' p m → Apart q line_size p m → line_at w' q ≡ line_at w q
unfolding line_at
line_kept q K a = ap line_of (K.same q line_size a)

pub lines-push : {w w' : List ℕ} {l : LineEntry} {s : Maybe ℕ} (b n : ℕ) → PutLine w w' (b + n * line_size) l s → lines_of w' b (n + 1) ≡ lines_of w b n ++ (record { entry = l; statement_sequence = sequence_of s } ∷ [])
unfolding lines_of line_at
lines-push {w} {w'} {l} {s} b n P = records-push line_of line_size b n (record { entry = l; statement_sequence = sequence_of s }) P.rest P.line

pub lines-copy_push : {w w' : List ℕ} {from : ℕ} (b n : ℕ) → CopiedBytes w w' from (b + n * line_size) line_size → lines_of w' b (n + 1) ≡ lines_of w b n ++ (line_at w from ∷ [])
unfolding lines_of line_at
lines-copy_push = records-copy_push line_of line_size

-- ---- tables of a function's rows

pub entries-length : (w : List ℕ) (b n : ℕ) → length (entries_of w b n) ≡ n
unfolding entries_of
entries-length = records-length entry_of entry_size

pub entries-nil : (w : List ℕ) (b : ℕ) → entries_of w b 0 ≡ []
unfolding entries_of
entries-nil = records-nil entry_of entry_size

pub entries_at : (w : List ℕ) (b n i : ℕ) (d : LineEntry) → i < n → get_or (entries_of w b n) i d ≡ entry_of (chunk w (b + i * entry_size) entry_size)
unfolding entries_of
entries_at = records-at entry_of entry_size

pub entries-rest_none : (w : List ℕ) (b n x : ℕ) → n ≤ x → drop x (entries_of w b n) ≡ []
unfolding entries_of
entries-rest_none = records-rest_none entry_of entry_size

pub entries-rest_cons : (w : List ℕ) (b n x : ℕ) → x < n
    → drop x (entries_of w b n) ≡ entry_of (chunk w (b + x * entry_size) entry_size) ∷ drop (x + 1) (entries_of w b n)
unfolding entries_of
entries-rest_cons = records-rest_cons entry_of entry_size

pub entries-kept : {w w' : List ℕ} {p m : ℕ} (b n : ℕ) → Kept w w' p m → Apart b (n * entry_size) p m → entries_of w' b n ≡ entries_of w b n
unfolding entries_of
entries-kept = records-kept entry_of entry_size

-- ---- tables of sequences

pub ranges-length : (w : List ℕ) (b n : ℕ) → length (ranges_of w b n) ≡ n
unfolding ranges_of
ranges-length = records-length range_of sequence_range_size

pub ranges-nil : (w : List ℕ) (b : ℕ) → ranges_of w b 0 ≡ []
unfolding ranges_of
ranges-nil = records-nil range_of sequence_range_size

pub ranges-rest_none : (w : List ℕ) (b n x : ℕ) → n ≤ x → drop x (ranges_of w b n) ≡ []
unfolding ranges_of
ranges-rest_none = records-rest_none range_of sequence_range_size

pub ranges-rest_cons : (w : List ℕ) (b n x : ℕ) → x < n → drop x (ranges_of w b n) ≡ range_at w (b + x * sequence_range_size) ∷ drop (x + 1) (ranges_of w b n)
unfolding ranges_of range_at
ranges-rest_cons = records-rest_cons range_of sequence_range_size

pub ranges-kept : {w w' : List ℕ} {p m : ℕ} (b n : ℕ) → Kept w w' p m → Apart b (n * sequence_range_size) p m → ranges_of w' b n ≡ ranges_of w b n
unfolding ranges_of
ranges-kept = records-kept range_of sequence_range_size

pub ranges-push : {w w' : List ℕ} {r : AddressRange} {s : Maybe ℕ} (b n : ℕ) → PutSequenceRange w w' (b + n * sequence_range_size) r s → ranges_of w' b (n + 1) ≡ ranges_of w b n ++ (record { range = r; statement_sequence = sequence_of s } ∷ [])
unfolding ranges_of range_at
ranges-push {w} {w'} {r} {s} b n P = records-push range_of sequence_range_size b n (record { range = r; statement_sequence = sequence_of s }) P.rest P.range
