-- What the run over a unit's rows gives comes from those rows, and a program has no more sequences than bytes.
use mathlib.Core.List.{List, [], ◌∷◌, ◌++◌}
use Prim.Native.Nat.{ℕ, zero, suc, ◌+◌, ◌^◌, ◌≤◌, ◌<◌}
use native.Mathlib.Omega.{arith}
use lib.ListN.{length}
use lib.Dec.{ltb, eqb}
use Rattle.tlv.specs.Lists.{All}
use Rattle.tlv.specs.Model.{LineHeader, LineRow}
use Rattle.tlv.specs.Accepted.{RowAccepted}
use Rattle.tlv.proofs.ListLaws.{all_append}
use Rattle.tlv.proofs.OutcomeLaws.{Gives, gives, gives_none, gives-cond, gives_of, gives-map, gives-bind}
use Rattle.line_program.specs.Standard.{Opcodes}
use Rattle.line_program.specs.Program.{place_of, skip, sequences_within, scan_line_sequence_offsets, opcodes_of, program_offset, line_sequence_offsets}
use Rattle.lines.specs.Lines.{RawLine, Run, raw_line, run_rows}

-- ---- the run over the rows

pub record RawFits (r : RawLine) : Type 0 where
  pub address : r.address < 2 ^ 64
  pub file : r.file < 2 ^ 64
  pub line : r.line < 2 ^ 64
  pub column : r.column < 2 ^ 16

-- a run with at most n sequences
pub record RunFits (n : ℕ) (run : Run) : Type 0 where
  pub lines : All RawFits run.lines
  pub count : run.count ≤ n

raw_fits : (r : LineRow) (n : ℕ) → RowAccepted r → RawFits (raw_line r n)
raw_fits r n a = record { address = a.address; file = a.file; line = a.line; column = a.column }

-- each sequence takes one row more
pub run_rows-fit : (most : ℕ) (rs : List LineRow) (n : ℕ) (opened : List RawLine) → n + length rs ≤ most → All RowAccepted rs → All RawFits opened
    → Gives (RunFits most) (run_rows rs n opened)
unfolding run_rows
run_rows-fit most [] n opened l rows os = let k : n ≤ most = omega arith in gives (record { lines = tt; count = k })
run_rows-fit most (r ∷ rs) n opened l rows os =
    let after = run_rows-fit most rs (suc n) [] (omega arith) rows.1 tt in
    let more = run_rows-fit most rs n (opened ++ (raw_line r n ∷ [])) (omega arith) rows.1 (all_append RawFits opened (raw_line r n ∷ []) os (raw_fits r n rows.0, tt)) in
    gives-cond (eqb r.kind 2) (λ e. gives_none) λ e.
    gives-cond (eqb r.kind 1) (λ e. gives-bind after λ run f. gives (record { lines = all_append RawFits opened run.lines os f.lines; count = f.count })) (λ e. more)

-- ---- the sequences of a program

sequences-few : (k : ℕ) (h : Opcodes) (base whole from : ℕ) (s : List ℕ) → Gives (λ l. length l ≤ k) (sequences_within k h base whole from s)
unfolding sequences_within
sequences-few zero h base whole from s = gives {a = []} (omega arith)
sequences-few (suc k) h base whole from [] = gives {a = []} (omega arith)
sequences-few (suc k) h base whole from (o ∷ s) =
    let later = sequences-few k h base whole in
    gives-bind (gives_of {P = λ t. Unit {0}} (skip h whole o s) λ t e. tt) λ t _.
    gives-cond t.ends
    (λ e. gives-cond (ltb (base + place_of whole t.rest) (2 ^ 64)) (λ e. gives-bind (later (base + place_of whole t.rest) t.rest) λ l f. gives {a = from ∷ l} (omega arith)) (λ e. gives_none))
    (λ e. gives-map (λ l f. omega arith) (later from t.rest))

pub offsets-few : (h : LineHeader) (program : List ℕ) → Gives (λ l. length l ≤ length program) (line_sequence_offsets h program)
unfolding line_sequence_offsets scan_line_sequence_offsets
offsets-few h program = gives-cond (ltb (program_offset h) (2 ^ 64)) (λ e. sequences-few (length program) (opcodes_of h) (program_offset h) (length program) (program_offset h) program) (λ e. gives_none)
