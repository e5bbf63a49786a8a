-- The loop of scan_line_sequence_offsets.
use mathlib.Core.Path.{◌≡◌, refl, sym, ap, ◌∙◌}
use mathlib.Core.Bool.{cond}
use mathlib.Core.List.{List, [], ◌∷◌, ◌++◌, append_assoc, append-nil}
use Prim.Native.Nat.{ℕ, zero, suc, ◌+◌, ◌-◌, ◌*◌, ◌/◌, ◌^◌, ◌≤◌, ◌<◌}
use native.Mathlib.Omega.{arith}
use borrow.Author.Tests.{lt-ltb, le-ltb}
use lib.Dec.{ltb}
use lib.ListN.{length, get_or, drop, length-drop, drop_of_length-le}
use Rattle.tlv.specs.Bytes.{le}
use Rattle.tlv.specs.Outcome.{Outcome, refused, done, ◌>>=◌}
use Rattle.buffers.specs.Table.{Kept, Wrote}
use Rattle.buffers.proofs.TableLaws.{kept_refl, kept-wide, kept_trans}
use Rattle.buffers.proofs.RecordLaws.{records-nil, numbers-push}
use Rattle.line_program.specs.declared.operand.Skipped.{Skipped}
use Rattle.std.specs.Prelude.{Ok, Err}
use Rattle.tlv.specs.declared.refusal.Refusal.{Refusal}
use Rattle.line_program.specs.Program.{skip, sequences_within, scan_line_sequence_offsets}
use Rattle.line_program.specs.Standard.{Passed, Opcodes}
use Rattle.line_program.specs.Scan.{Passes, offsets_at, Scanned}
use Rattle.line_program.proofs.UlebLaws.{drop_at}

-- n offsets stand in the table, and what is left of the program from p on gives the others. The fuel that is left is enough for that
pub record Scanning (h : Opcodes) (s w₀ w : List ℕ) (offset base n from p : ℕ) : Type 0 where
  pub fuel : ℕ
  pub enough : length s ≤ p + fuel
  pub goes : scan_line_sequence_offsets h offset s ≡ (sequences_within fuel h offset (length s) from (drop p s) >>= (λ l. done (offsets_at w base n ++ l)))
  pub counted : 3 * n ≤ p
  pub within : p ≤ length s
  pub rest : Kept w₀ w base (length s / 3 * 8)
  pub size : length w ≡ length w₀

bind-none : (o : Outcome (List ℕ)) → o ≡ (o >>= (λ l. done ([] ++ l)))
unfolding ◌>>=◌
bind-none (refused n) = refl
bind-none (done l) = refl

pub scan-start : (h : Opcodes) (s w : List ℕ) (offset base : ℕ) → Scanning h s w w offset base 0 offset 0
unfolding scan_line_sequence_offsets
scan-start h s w offset base =
    let o : Outcome (List ℕ) = sequences_within (length s) h offset (length s) offset s in
    record {
      fuel = length s;
      enough = omega arith;
      goes = bind-none o ∙ ap (λ (x : List ℕ). o >>= (λ l. done (x ++ l))) (sym (records-nil le 8 w base));
      counted = omega arith;
      within = omega arith;
      rest = kept_refl w base (length s / 3 * 8);
      size = refl;
    }

-- nothing is left
left-none : (k : ℕ) (h : Opcodes) (offset whole from : ℕ) → sequences_within k h offset whole from [] ≡ done []
unfolding sequences_within
left-none zero h offset whole from = refl
left-none (suc k) h offset whole from = refl

pub scan-done : {h : Opcodes} {s w₀ w : List ℕ} {offset base n from p : ℕ} → Scanning h s w₀ w offset base n from p → length s ≤ p
    → Scanned s w₀ w base (Ok n) (scan_line_sequence_offsets h offset s)
unfolding ◌>>=◌
scan-done {h} {s} {w₀} {w} {offset} {base} {n} {from} {p} S g = record {
  is =
      sym (S.goes
      ∙ ap (λ (x : List ℕ). sequences_within S.fuel h offset (length s) from x >>= (λ l. done (offsets_at w base n ++ l))) (drop_of_length-le s {i = p} g)
      ∙ ap (λ (x : Outcome (List ℕ)). x >>= (λ l. done (offsets_at w base n ++ l))) (left-none S.fuel h offset (length s) from)
      ∙ ap done (append-nil (offsets_at w base n)));
  within = omega (arith, S.counted, S.within);
  rest = S.rest;
}

-- the definition's turn, after an instruction
abbrev after : ℕ → Opcodes → ℕ → ℕ → ℕ → Outcome Passed → Outcome (List ℕ)
after k h offset whole from o = o >>= (λ t.
    cond t.ends
    (cond (ltb (offset + (whole - length t.rest)) (2 ^ 64))
    (sequences_within k h offset whole (offset + (whole - length t.rest)) t.rest >>= (λ l. done (from ∷ l)))
    (refused 12))
    (sequences_within k h offset whole from t.rest))

one_more : (k : ℕ) (h : Opcodes) (offset whole from : ℕ) (o : ℕ) (s : List ℕ)
    → sequences_within (suc k) h offset whole from (o ∷ s) ≡ after k h offset whole from (skip h whole o s)
unfolding sequences_within
one_more k h offset whole from o s = refl

bind-push : (xs : List ℕ) (x : ℕ) (o : Outcome (List ℕ)) → ((o >>= (λ l. done (x ∷ l))) >>= (λ l. done (xs ++ l))) ≡ (o >>= (λ l. done ((xs ++ (x ∷ [])) ++ l)))
unfolding ◌>>=◌
bind-push xs x (refused n) = refl
bind-push xs x (done l) = ap done (sym (append_assoc xs (x ∷ []) l))

module _ {h : Opcodes} {s w₀ w : List ℕ} {offset base n from p : ℕ} (S : Scanning h s w₀ w offset base n from p) (g : p < length s) where
  turned : {o : Outcome Passed} → skip h (length s) (get_or s p 0) (drop (p + 1) s) ≡ o
      → scan_line_sequence_offsets h offset s ≡ (after (S.fuel - 1) h offset (length s) from o >>= (λ l. done (offsets_at w base n ++ l)))
  turned e =
      let z : S.fuel ≡ suc (S.fuel - 1) = omega (arith, S.enough) in
      S.goes
      ∙ (λ i. sequences_within (z i) h offset (length s) from (drop_at s p (get_or s p 0) g refl i) >>= (λ l. done (offsets_at w base n ++ l)))
      ∙ ap (λ (x : Outcome (List ℕ)). x >>= (λ l. done (offsets_at w base n ++ l)))
      (one_more (S.fuel - 1) h offset (length s) from (get_or s p 0) (drop (p + 1) s) ∙ ap (after (S.fuel - 1) h offset (length s) from) e)

  pub scan-err : {f : Refusal} → Passes s (p + 1) (Err f) (skip h (length s) (get_or s p 0) (drop (p + 1) s))
      → Scanned s w₀ w base (Err f) (scan_line_sequence_offsets h offset s)
  unfolding ◌>>=◌
  scan-err Q = record { is = sym (turned (sym Q.is)); within = tt; rest = S.rest }

  pub scan-to : {next : ℕ} → Passes s (p + 1) (Ok (Skipped.To next)) (skip h (length s) (get_or s p 0) (drop (p + 1) s))
      → Scanning h s w₀ w offset base n from next
  unfolding ◌>>=◌
  scan-to Q =
      record {
        fuel = S.fuel - 1;
        enough = omega (arith, S.enough, Q.within.0);
        goes = turned (sym Q.is);
        counted = omega (arith, S.counted, Q.within.0);
        within = Q.within.1;
        rest = S.rest;
        size = S.size;
      }

  module _ {next : ℕ} (told : Passes s (p + 1) (Ok (Skipped.Ended next)) (skip h (length s) (get_or s p 0) (drop (p + 1) s))) where
    -- there is room for one more
    pub scan-room : base + length s / 3 * 8 ≤ length w₀ → base + n * 8 + 8 ≤ length w
    scan-room k = omega (arith, S.counted, S.size, told.within.0, told.within.1)

    place : length s - length (drop next s) ≡ next
    place = omega (arith, length-drop next s, told.within.1)

    module _ {w' : List ℕ} (W : Wrote w w' (base + n * 8) 8 from) where
      kept : Kept w₀ w' base (length s / 3 * 8)
      kept = kept_trans S.rest (kept-wide base (length s / 3 * 8) W.rest (omega arith) (omega (arith, S.counted, told.within.0, told.within.1)))

      pub scan-past : 18446744073709551615 - offset < next → Scanned s w₀ w' base (Err Refusal.Overflow) (scan_line_sequence_offsets h offset s)
      unfolding ◌>>=◌
      scan-past k =
          let q : 2 ^ 64 ≤ offset + next = omega arith in
          record { is = sym (rw (place, le-ltb (offset + next) (2 ^ 64) q) at (turned (sym told.is))); within = tt; rest = kept }

      pub scan-ended : next ≤ 18446744073709551615 - offset → length w' ≡ length w → Scanning h s w₀ w' offset base (n + 1) (offset + next) next
      unfolding ◌>>=◌
      scan-ended k len =
          let q : offset + next < 2 ^ 64 = omega (arith, told.within.0) in
          let o : Outcome (List ℕ) = sequences_within (S.fuel - 1) h offset (length s) (offset + next) (drop next s) in
          record {
            fuel = S.fuel - 1;
            enough = omega (arith, S.enough, told.within.0);
            goes =
                (rw (place, lt-ltb (offset + next) (2 ^ 64) q) at (turned (sym told.is)))
                ∙ bind-push (offsets_at w base n) from o
                ∙ ap (λ (x : List ℕ). o >>= (λ l. done (x ++ l))) (sym (numbers-push 8 base n W));
            counted = omega (arith, S.counted, told.within.0);
            within = told.within.1;
            rest = kept;
            size = len ∙ S.size;
          }
