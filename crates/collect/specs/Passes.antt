-- Contract. The walks over a unit's rows that the code makes: how many rows and sequences are finished, and where the sequences lie.
use Rattle.std.specs.Prelude.{ℕ, zero, suc, ◌+◌, ◌*◌, ◌≡◌, cond, List, [], ◌∷◌, map, ltb, eqb, drop, Result, Ok, Err}
use Rattle.std.proofs.Math.Option.{Option, none, some}
use Rattle.tlv.specs.Tags.{row_tag}
use Rattle.tlv.specs.declared.refusal.Refusal.{Refusal}
use Rattle.tlv.specs.Refusals.{number_of}
use Rattle.tlv.specs.Outcome.{Outcome, refused, done, ◌>>=◌}
use Rattle.tlv.specs.Lists.{at}
use Rattle.tlv.specs.Fields.{fields, payloads}
use Rattle.tlv.specs.Model.{CompilationUnit, LineHeader, LineRow, row_of}
use Rattle.buffers.specs.Table.{Kept}
use Rattle.access.specs.Places.{own_fields}
use Rattle.line_program.specs.Scan.{offsets_at}
use Rattle.lines.specs.Lines.{RawSequence, LineSequenceRange, raw_line, Converted, convert_row}
use Rattle.rows.specs.Sizes.{sequence_range_size}
use Rattle.rows.specs.Stored.{range_at, ranges_of}
use Rattle.collect.specs.declared.passes.CountedRows.{CountedRows}

-- the row fields of the unit whose fields follow place p
unfoldable pub rows_from : List ℕ → ℕ → List LineRow
rows_from s p = map row_of (payloads row_tag (own_fields (fields (drop p s))))

pub record Counted : Type 0 where
  pub lines : ℕ
  pub sequences : ℕ

-- lines so far, those of the open sequence, and sequences so far
unfoldable pub count_rows : List LineRow → ℕ → ℕ → ℕ → Outcome Counted
count_rows [] lines opened n = done (record { lines = lines; sequences = n })
count_rows (r ∷ rs) lines opened n =
    cond (eqb r.kind 2) (refused 6)
    (cond (eqb r.kind 1) (count_rows rs (lines + opened) 0 (n + 1))
    (count_rows rs lines (opened + 1) n))

abbrev pub count_from : ℕ → ℕ → ℕ → List LineRow → Outcome Counted
count_from lines opened n rows = count_rows rows lines opened n

-- rows that may be refused
abbrev pub count_all : Outcome (List LineRow) → Outcome Counted
count_all x = x >>= count_from 0 0 0

-- there are so many rows in finished sequences, and so many of these
pub record RowsCounted (rows : List LineRow) (n m : ℕ) : Type 0 where
  pub is : count_rows rows 0 0 0 ≡ done (record { lines = n; sequences = m })

abbrev pub counted_of : Result CountedRows Refusal → Outcome Counted
counted_of (Ok c) = done (record { lines = c.lines; sequences = c.sequences })
counted_of (Err e) = refused (number_of e)

abbrev pub start_or : Option ℕ → ℕ → ℕ
start_or none a = a
start_or (some s) a = s

-- the sequences from number n on; `start` is where the open one starts, once it has a row
unfoldable pub sequences_from : List LineRow → ℕ → Option ℕ → List RawSequence
sequences_from [] n start = []
sequences_from (r ∷ rs) n start =
    cond (eqb r.kind 1)
    (cond (ltb (start_or start 0) r.address)
    (record { range = record { start = start_or start 0; end = r.address }; sequence = n } ∷ sequences_from rs (n + 1) none)
    (sequences_from rs (n + 1) none))
    (sequences_from rs n (some (start_or start r.address)))

-- a sequence with its offset
abbrev pub with_offset : List ℕ → RawSequence → LineSequenceRange
with_offset offsets s = record { range = s.range; statement_sequence = at offsets s.sequence }

-- a sequence was written at p with its offset
pub record SequencePut (w w' : List ℕ) (p offsets n : ℕ) (q : RawSequence) : Type 0 where
  pub is : range_at w' p ≡ with_offset (offsets_at w offsets n) q
  pub rest : Kept w w' p sequence_range_size

-- the sequences of rows were written at base
pub record SequencesIn (rows : List LineRow) (w w' : List ℕ) (offsets n base r : ℕ) : Type 0 where
  pub is : ranges_of w' base r ≡ map (with_offset (offsets_at w offsets n)) (sequences_from rows 0 none)
  pub rest : Kept w w' base (r * sequence_range_size)

-- `left` rows from here on, each by convert_row
unfoldable pub convert_from : CompilationUnit → LineHeader → List ℕ → List LineRow → ℕ → ℕ → Converted → Outcome Converted
convert_from u h offsets rows n zero c = done c
convert_from u h offsets [] n (suc left) c = done c
convert_from u h offsets (r ∷ rs) n (suc left) c =
    cond (eqb r.kind 1) (convert_from u h offsets rs (n + 1) (suc left) c)
    (convert_row u h offsets (raw_line r n) c >>= convert_from u h offsets rs n left)
