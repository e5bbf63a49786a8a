-- The rows of a unit, gathered: from its source, and while bytes below them are written.
use mathlib.Core.Path.{◌≡◌, refl, sym}
use mathlib.Core.List.{List}
use Prim.Native.Nat.{ℕ, ◌+◌, ◌*◌, ◌≤◌}
use native.Mathlib.Omega.{arith}
use lib.ListN.{length}
use Rattle.std.specs.Prelude.{Option as Maybe, Some, None, Result, Ok, Err}
use Rattle.std.specs.Result.{result_err}
use Rattle.std.specs.Option.{unwrap_or}
use Rattle.tlv.specs.declared.refusal.Refusal.{Refusal}
use Rattle.tlv.specs.Refusals.{number_of}
use Rattle.tlv.specs.Outcome.{Outcome, ◌>>=◌}
use Rattle.tlv.specs.Grammar.{row_field_size}
use Rattle.tlv.specs.Model.{LineRow, row_of}
use Rattle.buffers.specs.Table.{Clear, KeptBut}
use Rattle.buffers.proofs.TableLaws.{kept_refl, kept-wide}
use Rattle.buffers.proofs.RecordLaws.{records-length, records-but}
use Rattle.rows.specs.Sizes.{line_size, row_room}
use Rattle.collect.specs.declared.program.ProgramRows.{ProgramRows}
use Rattle.collect.specs.declared.source.UnitProgram.{UnitProgram}
use Rattle.collect.specs.declared.unit_rows.UnitRows.{UnitRows}
use Rattle.collect.specs.declared.source.GatheredRows.{GatheredRows}
use Rattle.collect.specs.Passes.{rows_from, count_rows, counted_of}
use Rattle.collect.specs.Tables.{table_rows, GathersRows}
use Rattle.collect.specs.Sources.{program_in, source_rows, most_rows, rows_here, RowsReady, GathersUnit, fault_or, FindsFault}

-- ---- from the row fields

module _ (main w : List ℕ) (p lines : ℕ) (source : Maybe UnitProgram) (is : source ≡ None) where
  pub fields-fault : {e : Refusal} → counted_of (Err e) ≡ count_rows (rows_from main p) 0 0 0
      → GathersUnit (source_rows main p source) main w w lines (most_rows main p source) (Err e)
  unfolding ◌>>=◌
  fields-fault counted = record { is = rw is (sym counted); rest = kept_refl w lines _ }

-- ---- from the program

module _ (main w : List ℕ) (p lines : ℕ) (source : Maybe UnitProgram) {u : UnitProgram} (is : source ≡ Some u) where
  pub most-program : most_rows main p source ≡ length u.program.now
  most-program = rw is

  pub program-fault : {w' : List ℕ} {e' : Refusal}
      → GathersRows (program_in u.encoding u.lengths.now u.program.now) w w' (lines + length u.program.now * line_size) (length u.program.now) (Err e')
      → GathersUnit (source_rows main p source) main w w' lines (most_rows main p source) (Err e')
  program-fault G = record { is = rw is G.is; rest = rw most-program (kept-wide lines (row_room * length u.program.now) G.rest (omega arith) (omega arith)) }

  pub program-rows : {w' : List ℕ} {r : ProgramRows} → lines + row_room * most_rows main p source ≤ length w → length w' ≡ length w
      → GathersRows (program_in u.encoding u.lengths.now u.program.now) w w' (lines + length u.program.now * line_size) (length u.program.now) (Ok r)
      → GathersUnit (source_rows main p source) main w w' lines (most_rows main p source)
      (Ok (record { counted = r.counted; rows = UnitRows.Table r.rows }))
  program-rows {w'} {r} room size G =
      let k : length (table_rows w' r.rows.base r.rows.count) ≡ r.rows.count = records-length row_of row_field_size w' r.rows.base r.rows.count in
      let from = G.is.from in
      let few = G.is.few in
      let most = most-program in
      record {
        is = record {
          is = rw is G.is.is;
          counted = G.is.counted;
          few = omega arith;
          ready = record { is = (omega arith, omega arith) };
        };
        rest = rw most-program (kept-wide lines (row_room * length u.program.now) G.rest (omega arith) (omega arith));
      }

-- ---- the fault of rows comes first

module _ {x : Outcome (List LineRow)} {main w w' : List ℕ} {free most : ℕ} where
  pub fault-first : (r : Result GatheredRows Refusal) → GathersUnit x main w w' free most r → FindsFault x w w' free most (result_err r)
  unfolding ◌>>=◌
  fault-first (Ok r) G = record { is = λ later. rw (G.is.is, G.is.counted.is); rest = G.rest }
  fault-first (Err e) G = record { is = λ later. rw G.is; rest = G.rest }

-- the number of the refusal that comes of a fault and a later one
pub fault-number : (f : Maybe Refusal) (later : Refusal) → number_of (unwrap_or f later) ≡ fault_or f (number_of later)
fault-number None later = refl
fault-number (Some e) later = refl

-- ---- what stays

-- bytes below them were written
pub rows-still : {main w w' : List ℕ} {low : ℕ} {rs : List (ℕ × ℕ)} (rows : UnitRows) → RowsReady main w low rows → KeptBut w w' rs
    → ((q k : ℕ) → low ≤ q → Clear q k rs) → rows_here main w' rows ≡ rows_here main w rows
rows-still (UnitRows.Fields p) R K c = refl
rows-still (UnitRows.Table r) R K c = records-but row_of row_field_size r.base r.count K (c r.base (r.count * row_field_size) R.is.0)

pub ready-still : {main w w' : List ℕ} {low low' : ℕ} (rows : UnitRows) → RowsReady main w low rows → low' ≤ low → length w' ≡ length w
    → RowsReady main w' low' rows
ready-still (UnitRows.Fields p) R h size = record { is = R.is }
ready-still (UnitRows.Table r) R h size = record { is = (omega (arith, R.is.0), omega (arith, R.is.1)) }
