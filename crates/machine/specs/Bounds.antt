-- Theorem. What every program's rows are like: few, of numbers that fit, rising within each sequence; and the numbers that a program is refused with.
use Rattle.std.specs.Prelude.{◌≡◌, ℕ, ◌^◌, ◌<◌, ◌≤◌, cond, ◌⊎◌, List, [], ◌∷◌, length, ◌==◌}
use Rattle.tlv.specs.Outcome.{refused, done}
use Rattle.tlv.specs.Lists.{All}
use Rattle.tlv.specs.Model.{LineEncoding, LineRow}
use Rattle.line_program.specs.Standard.{Opcodes}
use Rattle.machine.specs.Machine.{program_rows}

-- as the grammar promises it of a row field (tlv, RowAccepted), and never failed
pub record RowFits (r : LineRow) : Type 0 where
  pub address : r.address < 2 ^ 64
  pub file : r.file < 2 ^ 64
  pub line : r.line < 2 ^ 64
  pub column : r.column < 2 ^ 16
  pub kind : r.kind ≤ 1

-- the Standard, 6.2.5: "Within a sequence, addresses .. may only increase"
abbrev pub Rising : ℕ → List LineRow → Type 0
Rising a [] = Unit {0}
Rising a (r ∷ rs) = (a ≤ r.address) × Rising (cond (r.kind == 1) 0 r.address) rs

pub record RowsBounded (program : List ℕ) (rows : List LineRow) : Type 0 where
  pub few : length rows ≤ length program
  pub fit : All RowFits rows
  pub rising : Rising 0 rows

pub record Bounded (e : LineEncoding) (h : Opcodes) (program : List ℕ) : Type 0 where
  pub rows : (rows : List LineRow) → program_rows e h program ≡ done rows → RowsBounded program rows
  pub refusals : (n : ℕ) → program_rows e h program ≡ refused n → ((7 ≤ n) × (n ≤ 12)) ⊎ ((21 ≤ n) × (n ≤ 22))

abbrev pub Bounds : Type 0
Bounds = (e : LineEncoding) (h : Opcodes) (program : List ℕ) → Bounded e h program
