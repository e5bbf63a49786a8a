-- The rows of a program are written as a table: one row, and the loop's start, its turns and its ends.
use mathlib.Core.Path.{◌≡◌, refl, sym, ◌∙◌}
use mathlib.Core.Logic.{inl}
use mathlib.Core.Bool.{false}
use mathlib.Core.List.{List, [], ◌∷◌, ◌++◌, append_assoc, append-nil}
use Prim.Native.Nat.{ℕ, ◌+◌, ◌*◌, ◌≤◌, ◌<◌, min}
use native.Mathlib.Omega.{arith}
use lib.ListN.{length, drop}
use Rattle.std.specs.Prelude.{Some, None, Ok, Err}
use Rattle.tlv.specs.declared.refusal.Refusal.{Refusal}
use Rattle.tlv.specs.Outcome.{Outcome, refused, done, ◌>>=◌}
use Rattle.tlv.specs.Bytes.{le_at}
use Rattle.tlv.specs.Grammar.{row_line_at, row_column_at, row_kind_at, row_field_size}
use Rattle.tlv.specs.Model.{LineRow, row_of}
use Rattle.buffers.specs.declared.table.Stored.{Stored}
use Rattle.buffers.specs.Table.{chunk, Kept, Wrote}
use Rattle.buffers.proofs.ChunkLaws.{le_at-chunk, le_at-front}
use Rattle.buffers.proofs.TableLaws.{kept_refl, kept_trans, kept-wide, le_at-kept}
use Rattle.buffers.proofs.RecordLaws.{records-nil, records-push}
use Rattle.machine.specs.declared.registers.Encoding.{Encoding}
use Rattle.machine.specs.declared.registers.Registers.{Registers}
use Rattle.machine.specs.declared.machine.Emitted.{Emitted}
use Rattle.machine.specs.Machine.{initial, appended_row, rest_rows, unsupported, program_rows}
use Rattle.machine.specs.Steps.{line_encoding, machine_of, Emits}
use Rattle.machine.specs.Programs.{ProgramMade}
use Rattle.collect.specs.declared.convert.Row.{Row}
use Rattle.collect.specs.Tables.{table_rows, RowPut, GathersRows}
use Rattle.collect.specs.Sources.{program_in}
use Rattle.collect.proofs.ProgramCountLaws.{CountingProgram, program-refused, program-start, program-done, program-fault}
use Rattle.collect.proofs.ProgramCountLaws.{program-plain, program-ended}

-- ---- one row

pub row_put : {w w₁ w₂ w₃ w₄ w₅ : List ℕ} {p : ℕ} (r : Registers) {kind column : ℕ} → column ≡ min r.column 65535 → Wrote w w₁ p 8 r.address
    → Wrote w₁ w₂ (p + 8) 8 r.file → Wrote w₂ w₃ (p + row_line_at) 8 r.line → Wrote w₃ w₄ (p + row_column_at) 2 column
    → Wrote w₄ w₅ (p + row_kind_at) 1 kind → RowPut w w₅ p (appended_row r kind)
unfolding row_of
row_put {w₅ = w₅} {p} r {kind} {column} is A F L C K =
    let size = row_field_size in
    let ea : le_at 8 (chunk w₅ p size) 0 ≡ r.address
    = le_at-front 8 w₅ p size (omega arith) ∙ le_at-kept 8 p K.rest (inl (omega arith)) ∙ le_at-kept 8 p C.rest (inl (omega arith))
    ∙ le_at-kept 8 p L.rest (inl (omega arith)) ∙ le_at-kept 8 p F.rest (inl (omega arith)) ∙ A.value in
    let ef : le_at 8 (chunk w₅ p size) 8 ≡ r.file
    = le_at-chunk 8 w₅ p size 8 (omega arith) ∙ le_at-kept 8 (p + 8) K.rest (inl (omega arith)) ∙ le_at-kept 8 (p + 8) C.rest (inl (omega arith))
    ∙ le_at-kept 8 (p + 8) L.rest (inl (omega arith)) ∙ F.value in
    let el : le_at 8 (chunk w₅ p size) row_line_at ≡ r.line
    = le_at-chunk 8 w₅ p size row_line_at (omega arith) ∙ le_at-kept 8 (p + row_line_at) K.rest (inl (omega arith))
    ∙ le_at-kept 8 (p + row_line_at) C.rest (inl (omega arith)) ∙ L.value in
    let ec : le_at 2 (chunk w₅ p size) row_column_at ≡ min r.column 65535
    = le_at-chunk 2 w₅ p size row_column_at (omega arith) ∙ le_at-kept 2 (p + row_column_at) K.rest (inl (omega arith)) ∙ C.value ∙ is in
    let ek : le_at 1 (chunk w₅ p size) row_kind_at ≡ kind = le_at-chunk 1 w₅ p size row_kind_at (omega arith) ∙ K.value in
    record {
      is = λ i. record { address = ea i; file = ef i; line = el i; column = ec i; kind = ek i };
      rest =
          kept_trans (kept-wide p size A.rest (omega arith) (omega arith))
          (kept_trans (kept-wide p size F.rest (omega arith) (omega arith))
          (kept_trans (kept-wide p size L.rest (omega arith) (omega arith))
          (kept_trans (kept-wide p size C.rest (omega arith) (omega arith)) (kept-wide p size K.rest (omega arith) (omega arith)))));
    }

-- ---- the rows that were written before those that follow

none_written : (x : Outcome (List LineRow)) (l : List LineRow) → l ≡ [] → (x >>= λ later. done (l ++ later)) ≡ x
unfolding ◌>>=◌
none_written (refused n) l e = refl
none_written (done rows) l e = rw e

one_written : (x : Outcome (List LineRow)) (row : LineRow) (l l' : List LineRow) → l' ≡ l ++ (row ∷ [])
    → ((x >>= λ later. done (row ∷ later)) >>= λ later. done (l ++ later)) ≡ (x >>= λ later. done (l' ++ later))
unfolding ◌>>=◌
one_written (refused n) row l l' e = refl
one_written (done rows) row l l' e = rw (e, append_assoc)

-- ---- the loop

-- the `count` rows that were written from base on, and those from here on, are the program's
pub record GatheringProgram (e : Encoding) (ls s w₀ w : List ℕ) (base : ℕ) (r : Registers) (at lines opened n count : ℕ) : Type 0 where
  pub counting : CountingProgram e ls s r at lines opened n
  pub rows : (rest_rows (machine_of e ls (length s)) r (drop at s) >>= λ later. done (table_rows w base count ++ later)) ≡ program_in e ls s
  pub few : count ≤ at
  pub kept : Kept w₀ w base (length s * row_field_size)
  pub room : base + length s * row_field_size ≤ length w
  pub size : length w ≡ length w₀

module _ (e : Encoding) (ls s w : List ℕ) (base : ℕ) where
  -- 21
  pub gather-refused : {f : Refusal} → ProgramMade s ls e (Err f) → GathersRows (program_in e ls s) w w base (length s) (Err f)
  gather-refused M = rw M.0 (record { is = sym (program-refused e ls s M.1); rest = kept_refl w base _ })

  pub gather-start : (r : Registers) → unsupported (line_encoding e) ≡ false → r ≡ initial
      → base + length s * row_field_size ≤ length w → GatheringProgram e ls s w w base r 0 0 0 0 0
  unfolding program_in program_rows
  gather-start r u i room = record {
    counting = program-start e ls s r u i;
    rows = none_written (rest_rows (machine_of e ls (length s)) r s) (table_rows w base 0) (records-nil row_of row_field_size w base)
        ∙ rw (i, u);
    few = omega arith;
    kept = kept_refl w base _;
    room = room;
    size = refl;
  }

module _ {e : Encoding} {ls s w₀ w : List ℕ} {base : ℕ} {r : Registers} {at lines opened n count : ℕ}
    (G : GatheringProgram e ls s w₀ w base r at lines opened n count) where
  pub gather-fault : {f : Refusal} → Emits (machine_of e ls (length s)) s r at (Err f) → GathersRows (program_in e ls s) w₀ w base (length s) (Err f)
  gather-fault E = record { is = sym (program-fault G.counting E); rest = G.kept }

  pub gather-end : Emits (machine_of e ls (length s)) s r at (Ok None) → {rows : Stored Row} → rows.base ≡ base → rows.count ≡ count
      → GathersRows (program_in e ls s) w₀ w base (length s)
      (Ok (record { counted = record { lines = lines; opened = opened; sequences = n }; rows = rows }))
  unfolding ◌>>=◌
  gather-end E {rows} from many =
      let all : program_in e ls s ≡ done (table_rows w rows.base rows.count) = rw (from, many) (sym (rw (← E.is, append-nil) at G.rows)) in
      record {
        is = record {
          from = from;
          is = all;
          counted = record { is = sym (rw all at (program-done G.counting E)) };
          few = omega (arith, G.few, G.counting.within);
        };
        rest = G.kept;
      }

  -- one row more
  module _ {w' : List ℕ} {row : LineRow} {next : ℕ} (P : RowPut w w' (base + count * row_field_size) row) (same : length w' ≡ length w) (ahead : at < next)
      (within : next ≤ length s) where
    pushed : table_rows w' base (count + 1) ≡ table_rows w base count ++ (row ∷ [])
    pushed = records-push row_of row_field_size base count row P.rest P.is

    grown : {v : Registers} {lines' opened' n' : ℕ} → CountingProgram e ls s v next lines' opened' n'
        → (rest_rows (machine_of e ls (length s)) v (drop next s) >>= λ later. done (row ∷ later)) ≡ rest_rows (machine_of e ls (length s)) r (drop at s)
        → GatheringProgram e ls s w₀ w' base v next lines' opened' n' (count + 1)
    grown {v} C is =
        let few = G.few in
        let room = G.room in
        record {
          counting = C;
          rows = sym (one_written (rest_rows (machine_of e ls (length s)) v (drop next s)) row (table_rows w base count) (table_rows w' base (count + 1)) pushed)
              ∙ (rw (← is) at G.rows);
          few = omega arith;
          kept = kept_trans G.kept (kept-wide base (length s * row_field_size) P.rest (omega arith) (omega arith));
          room = rw same room;
          size = same ∙ G.size;
        }

  module _ {v : Registers} {next : ℕ} (plain : Emits (machine_of e ls (length s)) s r at (Ok (Some (Emitted.Plain v next)))) where
    pub gather-plain : {w' : List ℕ} → RowPut w w' (base + count * row_field_size) (appended_row v 0) → length w' ≡ length w
        → GatheringProgram e ls s w₀ w' base v next lines (opened + 1) n (count + 1)
    gather-plain P same = grown P same plain.within.0 plain.within.1 (program-plain G.counting plain) plain.is

  module _ {v : Registers} {next : ℕ} (ended : Emits (machine_of e ls (length s)) s r at (Ok (Some (Emitted.Ended v next)))) where
    pub gather-ended : {w' : List ℕ} (i : Registers) → RowPut w w' (base + count * row_field_size) (appended_row v 1) → length w' ≡ length w → i ≡ initial
        → GatheringProgram e ls s w₀ w' base i next (lines + opened) 0 (n + 1) (count + 1)
    gather-ended i P same z = grown P same ended.within.0 ended.within.1 (program-ended G.counting ended i z) (rw z ended.is)
