-- The loop that writes the sequences of a unit's rows: its start, its turns and its end.
use mathlib.Core.Path.{◌≡◌, sym, ap, ◌∙◌}
use mathlib.Core.Bool.{Bool, true, false}
use mathlib.Core.Logic.{inr}
use mathlib.Core.List.{List, [], ◌∷◌, ◌++◌, map}
use mathlib.Core.Option.{none}
use Prim.Native.Nat.{ℕ, ◌+◌, ◌*◌, ◌≤◌, ◌<◌}
use native.Mathlib.Omega.{arith}
use lib.Dec.{leb}
use lib.ListN.{length, length-append, length-map}
use borrow.Author.Tests.{eqb-true, eqb-false, leb-true, leb-false}
use Rattle.std.specs.Prelude.{Option as Maybe, Some, None, unwrap_or}
use Rattle.std.specs.Option.{option_or}
use Rattle.tlv.specs.Model.{LineRow}
use Rattle.buffers.proofs.TableLaws.{but_one}
use Rattle.line_program.specs.Scan.{offsets_at}
use Rattle.lines.specs.Lines.{RawLine}
use Rattle.rows.specs.Sizes.{sequence_range_size}
use Rattle.rows.specs.Stored.{sequence_of, ranges_of}
use Rattle.rows.proofs.StoredLaws.{ranges-length}
use Rattle.collect.specs.declared.unit_rows.UnitRows.{UnitRows}
use Rattle.collect.specs.declared.unit_rows.FoundRow.{FoundRow}
use Rattle.collect.specs.Passes.{start_or, sequences_from, with_offset, SequencePut, SequencesIn}
use Rattle.collect.specs.Sources.{rows_here, RowsReady}
use Rattle.collect.specs.Walks.{begin_at, RowFound}
use Rattle.collect.proofs.UnitRowsLaws.{rows-still, ready-still}
use Rattle.collect.proofs.SequencesList.{CollectingList, start-is, list-start, list_done, list-room, list_put, list-empty, list-more}

-- where the records of all sequences end
abbrev records_end : List LineRow → ℕ → ℕ
records_end all base = base + sequence_range_size * length (sequences_from all 0 none)

-- the rows `rest` are left of all; a table of them stands above the records
pub record CollectingRows (main w₀ w : List ℕ) (rows rest : UnitRows) (offsets n base k : ℕ) (start : Maybe ℕ) (count : ℕ) : Type 0 where
  pub list : CollectingList w₀ w (rows_here main w₀ rows) (rows_here main w₀ rest) offsets n base k start count
  pub ready : RowsReady main w₀ (records_end (rows_here main w₀ rows) base) rest
  pub small : k ≤ begin_at rest

pub collecting-start : {main w : List ℕ} {rows : UnitRows} {offsets n base : ℕ} → RowsReady main w (records_end (rows_here main w rows) base) rows
    → offsets + n * 8 ≤ base → records_end (rows_here main w rows) base ≤ length w → CollectingRows main w w rows rows offsets n base 0 None 0
collecting-start {main} {w} {rows} R below room = record {
  list = list-start (rows_here main w rows) below room;
  ready = R;
  small = omega arith;
}

module _ {main w₀ w : List ℕ} {rows rest : UnitRows} {offsets n base k : ℕ} {start : Maybe ℕ} {count : ℕ}
    (J : CollectingRows main w₀ w rows rest offsets n base k start count) where
  -- the records so far are some of all
  records-few : count ≤ length (sequences_from (rows_here main w₀ rows) 0 none)
  records-few =
      let f = with_offset (offsets_at w₀ offsets n) in
      let later = sequences_from (rows_here main w₀ rest) k (sequence_of start) in
      let all = sequences_from (rows_here main w₀ rows) 0 none in
      let a : length (ranges_of w base count ++ map f later) ≡ length (map f all) = ap length J.list.same in
      omega (arith, a, length-append (ranges_of w base count) (map f later), ranges-length w base count, length-map all f)

  still : (rs : UnitRows) → RowsReady main w₀ (records_end (rows_here main w₀ rows) base) rs → rows_here main w rs ≡ rows_here main w₀ rs
  still rs R = rows-still rs R (but_one J.list.kept) (λ q m h. (inr (omega (arith, records-few)), tt))

  pub collecting-done : rows_here main w rest ≡ [] → SequencesIn (rows_here main w₀ rows) w₀ w offsets n base count
  collecting-done e = list_done J.list (sym (still rest J.ready) ∙ e)

  module _ {f : FoundRow} (N : RowFound main w rest k f) where
    abbrev low : ℕ
    low = records_end (rows_here main w₀ rows) base

    ready-next : RowsReady main w₀ (records_end (rows_here main w₀ rows) base) f.rest
    ready-next = ready-still f.rest (N.ready low (ready-still {low = low} {low' = low} rest J.ready (omega arith) J.list.size)) (omega arith) (sym J.list.size)

    here : rows_here main w₀ rest ≡ N.row ∷ rows_here main w₀ f.rest
    here = sym (still rest J.ready) ∙ N.is ∙ ap (λ (rs : List LineRow). N.row ∷ rs) (still f.rest ready-next)

    address_is : N.row.address ≡ f.row.address
    address_is = ap (λ (x : RawLine). x.address) (sym N.raw)

    -- the next turn
    next-turn : {w' : List ℕ} {k' : ℕ} {start' : Maybe ℕ} {count' : ℕ} → k' ≤ k + 1
        → CollectingList w₀ w' (rows_here main w₀ rows) (rows_here main w₀ f.rest) offsets n base k' start' count'
        → CollectingRows main w₀ w' rows f.rest offsets n base k' start' count'
    next-turn one L = record { list = L; ready = ready-next; small = omega (arith, J.small, N.behind) }

    module _ (one : f.ends ≡ true) {from : ℕ} (starts : from ≡ unwrap_or start 0) {empty : Bool} (is_empty : empty ≡ leb f.row.address from) where
      is_end : N.row.kind ≡ 1
      is_end = eqb-true N.row.kind 1 (sym N.ends ∙ one)

      from_is : from ≡ start_or (sequence_of start) 0
      from_is = starts ∙ start-is start

      module _ (not_empty : empty ≡ false) where
        longer : from < f.row.address
        longer = leb-false f.row.address from (sym is_empty ∙ not_empty)

        -- the record has room
        pub collecting-room : base + count * sequence_range_size + sequence_range_size ≤ length w
        collecting-room = list-room J.list here is_end from_is address_is longer

        pub collecting-put : {w' : List ℕ}
            → SequencePut w w' (base + count * sequence_range_size) offsets n (record { range = record { start = from; end = f.row.address }; sequence = k })
            → length w' ≡ length w → CollectingRows main w₀ w' rows f.rest offsets n base (k + 1) None (count + 1)
        collecting-put P size = next-turn (omega arith) (list_put J.list here is_end from_is address_is longer P size)

      pub collecting-empty : empty ≡ true → CollectingRows main w₀ w rows f.rest offsets n base (k + 1) None count
      collecting-empty e = next-turn (omega arith) (list-empty J.list here is_end from_is address_is (leb-true f.row.address from (sym is_empty ∙ e)))

    pub collecting-more : f.ends ≡ false → CollectingRows main w₀ w rows f.rest offsets n base k (option_or start (Some f.row.address)) count
    collecting-more plain = next-turn (omega arith) (list-more J.list here (eqb-false N.row.kind 1 (sym N.ends ∙ plain)) address_is)
