-- The loop that counts the rows of a program: its start, its turns and its ends.
use mathlib.Core.Path.{◌≡◌, refl, sym, ◌∙◌}
use mathlib.Core.Bool.{true, false}
use mathlib.Core.List.{List, ◌∷◌}
use Prim.Native.Nat.{ℕ, ◌+◌, ◌≤◌}
use native.Mathlib.Omega.{arith}
use lib.ListN.{length, drop}
use Rattle.std.specs.Prelude.{Some, None, Ok, Err}
use Rattle.tlv.specs.declared.refusal.Refusal.{Refusal}
use Rattle.tlv.specs.Refusals.{number_of}
use Rattle.tlv.specs.Outcome.{Outcome, refused, done, ◌>>=◌}
use Rattle.tlv.specs.Model.{LineRow}
use Rattle.machine.specs.declared.registers.Encoding.{Encoding}
use Rattle.machine.specs.declared.registers.Registers.{Registers}
use Rattle.machine.specs.declared.machine.Emitted.{Emitted}
use Rattle.machine.specs.Machine.{initial, appended_row, rest_rows, unsupported, program_rows}
use Rattle.machine.specs.Steps.{line_encoding, machine_of, Emits}
use Rattle.collect.specs.Passes.{Counted, count_rows, count_from, count_all}
use Rattle.collect.specs.Sources.{program_in}

abbrev asked : Encoding → List ℕ → List ℕ → Outcome Counted
asked e ls s = count_all (program_in e ls s)

-- 21
pub program-refused : (e : Encoding) (ls s : List ℕ) → unsupported (line_encoding e) ≡ true → refused 21 ≡ asked e ls s
unfolding program_in program_rows ◌>>=◌
program-refused e ls s u = rw u

-- the rows from here on, with the counts so far, count as those of the program; each row that was counted takes a byte at least
pub record CountingProgram (e : Encoding) (ls s : List ℕ) (r : Registers) (at lines opened n : ℕ) : Type 0 where
  pub same : (rest_rows (machine_of e ls (length s)) r (drop at s) >>= count_from lines opened n) ≡ asked e ls s
  pub small : lines + opened + n ≤ at
  pub within : at ≤ length s

pub program-start : (e : Encoding) (ls s : List ℕ) (r : Registers) → unsupported (line_encoding e) ≡ false → r ≡ initial → CountingProgram e ls s r 0 0 0 0
unfolding program_in program_rows
program-start e ls s r u i = record {
  same = rw (i, u);
  small = omega arith;
  within = omega arith;
}

-- one row and the others
row_first : (x : Outcome (List LineRow)) (row : LineRow) (lines opened n : ℕ) → ((x >>= λ later. done (row ∷ later)) >>= count_from lines opened n)
    ≡ (x >>= λ later. count_from lines opened n (row ∷ later))
unfolding ◌>>=◌
row_first (refused k) row lines opened n = refl
row_first (done l) row lines opened n = refl

module _ {e : Encoding} {ls s : List ℕ} {r : Registers} {at lines opened n : ℕ} (C : CountingProgram e ls s r at lines opened n) where
  pub program-done : Emits (machine_of e ls (length s)) s r at (Ok None) → done (record { lines = lines; sequences = n }) ≡ asked e ls s
  unfolding count_rows ◌>>=◌
  program-done E = rw (← E.is) at C.same

  pub program-fault : {f : Refusal} → Emits (machine_of e ls (length s)) s r at (Err f) → refused (number_of f) ≡ asked e ls s
  unfolding ◌>>=◌
  program-fault E = rw (← E.is) at C.same

  module _ {v : Registers} {next : ℕ} (plain : Emits (machine_of e ls (length s)) s r at (Ok (Some (Emitted.Plain v next)))) where
    pub program-plain : CountingProgram e ls s v next lines (opened + 1) n
    unfolding count_rows
    program-plain = record {
      same = sym (row_first (rest_rows (machine_of e ls (length s)) v (drop next s)) (appended_row v 0) lines opened n) ∙ (rw (← plain.is) at C.same);
      small = omega (arith, C.small, plain.within.0);
      within = plain.within.1;
    }

  module _ {v : Registers} {next : ℕ} (ended : Emits (machine_of e ls (length s)) s r at (Ok (Some (Emitted.Ended v next)))) where
    pub program-ended : (i : Registers) → i ≡ initial → CountingProgram e ls s i next (lines + opened) 0 (n + 1)
    unfolding count_rows
    program-ended i z = record {
      same = rw z (sym (row_first (rest_rows (machine_of e ls (length s)) initial (drop next s)) (appended_row v 1) lines opened n)
          ∙ (rw (← ended.is) at C.same));
      small = omega (arith, C.small, ended.within.0);
      within = ended.within.1;
    }
