-- The sequences of rows as they are written, wherever the rows come from: the offset of a number, one record, and the loop's start, turns and end, over a list
-- of the rows that are left.
use mathlib.Core.Path.{◌≡◌, refl, sym, ap, ◌∙◌}
use mathlib.Core.Bool.{cond}
use mathlib.Core.Logic.{inl}
use mathlib.Core.List.{List, [], ◌∷◌, ◌++◌, map, append_assoc, append-nil}
use mathlib.Core.Option.{Option, none, some}
use Prim.Native.Nat.{ℕ, ◌+◌, ◌*◌, ◌≤◌, ◌<◌}
use native.Mathlib.Omega.{arith}
use lib.Dec.{ltb, eqb}
use lib.ListN.{length}
use borrow.Author.Tests.{eq-eqb, ne_eqb, lt-ltb, le-ltb}
use Rattle.std.specs.Prelude.{Option as Maybe, Some, None, unwrap_or}
use Rattle.std.specs.Option.{option_or}
use Rattle.tlv.specs.Lists.{at}
use Rattle.tlv.specs.Bytes.{le, le_at}
use Rattle.tlv.specs.Model.{LineRow}
use Rattle.buffers.specs.Table.{Kept}
use Rattle.buffers.proofs.TableLaws.{kept_refl, kept_trans, kept-wide}
use Rattle.buffers.proofs.RecordLaws.{records-length, records-kept, records-push, numbers-at}
use Rattle.line_program.specs.Scan.{offsets_at}
use Rattle.lines.specs.Lines.{RawSequence}
use Rattle.files.proofs.PieceLaws.{at_some, at_none}
use Rattle.rows.specs.Sizes.{sequence_range_size}
use Rattle.rows.specs.Stored.{sequence_of, range_of, range_at, ranges_of}
use Rattle.rows.proofs.StoredLaws.{ranges-nil}
use Rattle.collect.specs.Passes.{start_or, sequences_from, with_offset, SequencePut, SequencesIn}

-- ---- the offset of a sequence

module _ (w : List ℕ) (b n i : ℕ) where
  pub offset-known : {v : ℕ} → i < n → v ≡ le_at 8 w (b + i * 8) → sequence_of (Some v) ≡ at (offsets_at w b n) i
  offset-known h e = ap some (e ∙ sym (numbers-at 8 w b n i 0 h)) ∙ sym (at_some (offsets_at w b n) i 0 (omega (arith, records-length le 8 w b n)))

  pub offset-unknown : n ≤ i → sequence_of None ≡ at (offsets_at w b n) i
  offset-unknown h = sym (at_none (offsets_at w b n) i (omega (arith, records-length le 8 w b n)))

-- ---- the loop

-- where a sequence with no row starts, and one with a row more
pub start-is : (start : Maybe ℕ) → unwrap_or start 0 ≡ start_or (sequence_of start) 0
start-is (Some s) = refl
start-is None = refl

pub start-more : (start : Maybe ℕ) (address : ℕ) → sequence_of (option_or start (Some address)) ≡ some (start_or (sequence_of start) address)
start-more (Some s) address = refl
start-more None address = refl

-- the records so far, and the sequences of `rest` from number k on, are those of all rows; there is room for them
pub record CollectingList (w₀ w : List ℕ) (all rest : List LineRow) (offsets n base k : ℕ) (start : Maybe ℕ) (count : ℕ) : Type 0 where
  pub same : ranges_of w base count ++ map (with_offset (offsets_at w₀ offsets n)) (sequences_from rest k (sequence_of start))
      ≡ map (with_offset (offsets_at w₀ offsets n)) (sequences_from all 0 none)
  pub room : base + sequence_range_size * (count + length (sequences_from rest k (sequence_of start))) ≤ length w
  pub few : count ≤ k
  pub below : offsets + n * 8 ≤ base
  pub kept : Kept w₀ w base (count * sequence_range_size)
  pub size : length w ≡ length w₀

pub list-start : {w : List ℕ} {offsets n base : ℕ} (all : List LineRow) → offsets + n * 8 ≤ base
    → base + sequence_range_size * length (sequences_from all 0 none) ≤ length w → CollectingList w w all all offsets n base 0 None 0
list-start {w} {base = base} all below room = record {
  same = rw (ranges-nil w base);
  room = omega arith;
  few = omega arith;
  below = below;
  kept = kept_refl w base 0;
  size = refl;
}

module _ {w₀ w : List ℕ} {all rest : List LineRow} {offsets n base k : ℕ} {start : Maybe ℕ} {count : ℕ}
    (J : CollectingList w₀ w all rest offsets n base k start count) where
  pub list_done : rest ≡ [] → SequencesIn all w₀ w offsets n base count
  unfolding sequences_from
  list_done e = record { is = sym (append-nil (ranges_of w base count)) ∙ (rw e at J.same); rest = J.kept }

  module _ {r : LineRow} {rs : List LineRow} (e : rest ≡ r ∷ rs) where
    -- what the row makes of the sequences from here on
    turn : (start : Option ℕ) → sequences_from rest k start
        ≡ cond (eqb r.kind 1)
        (cond (ltb (start_or start 0) r.address)
        (record { range = record { start = start_or start 0; end = r.address }; sequence = k } ∷ sequences_from rs (k + 1) none)
        (sequences_from rs (k + 1) none))
        (sequences_from rs k (some (start_or start r.address)))
    unfolding sequences_from
    turn start = rw e

    -- a row that ends no sequence with a range
    moved : (k' : ℕ) (start' : Maybe ℕ) → k ≤ k' → sequences_from rest k (sequence_of start) ≡ sequences_from rs k' (sequence_of start')
        → CollectingList w₀ w all rs offsets n base k' start' count
    moved k' start' up turns =
        let few = J.few in
        record {
          same = rw turns at J.same;
          room = rw turns at J.room;
          few = omega arith;
          below = J.below;
          kept = J.kept;
          size = J.size;
        }

    module _ (one : r.kind ≡ 1) {from address : ℕ} (starts : from ≡ start_or (sequence_of start) 0) (ends : r.address ≡ address) where
      module _ (ahead : from < address) where
        ended : sequences_from rest k (sequence_of start)
            ≡ record { range = record { start = from; end = address }; sequence = k } ∷ sequences_from rs (k + 1) none
        ended = turn (sequence_of start) ∙ rw (ends, eq-eqb r.kind 1 one, ← starts, lt-ltb from address ahead)

        -- the record has room
        pub list-room : base + count * sequence_range_size + sequence_range_size ≤ length w
        list-room = let x = rw ended at J.room in omega arith

        pub list_put : {w' : List ℕ}
            → SequencePut w w' (base + count * sequence_range_size) offsets n (record { range = record { start = from; end = address }; sequence = k })
            → length w' ≡ length w → CollectingList w₀ w' all rs offsets n base (k + 1) None (count + 1)
        unfolding ranges_of range_at
        list_put {w'} P same_size =
            let few = J.few in
            let size = J.size in
            let room = rw ended at J.room in
            let later = sequences_from rs (k + 1) none in
            let q : RawSequence = record { range = record { start = from; end = address }; sequence = k } in
            let offs : offsets_at w offsets n ≡ offsets_at w₀ offsets n = records-kept le 8 offsets n J.kept (inl J.below) in
            let pushed : ranges_of w' base (count + 1) ≡ ranges_of w base count ++ (with_offset (offsets_at w₀ offsets n) q ∷ []) =
            records-push range_of sequence_range_size base count (with_offset (offsets_at w₀ offsets n) q) P.rest (P.is ∙ ap (λ (o : List ℕ). with_offset o q) offs) in
            record {
              same = rw (pushed, append_assoc) (rw ended at J.same);
              room = omega arith;
              few = omega arith;
              below = J.below;
              kept =
                  kept_trans (kept-wide base ((count + 1) * sequence_range_size) J.kept (omega arith) (omega arith))
                  (kept-wide base ((count + 1) * sequence_range_size) P.rest (omega arith) (omega arith));
              size = same_size ∙ size;
            }

      pub list-empty : address ≤ from → CollectingList w₀ w all rs offsets n base (k + 1) None count
      list-empty behind =
          moved (k + 1) None (omega arith)
          (turn (sequence_of start) ∙ rw (ends, eq-eqb r.kind 1 one, ← starts, le-ltb from address behind))

    -- a row that ends none
    pub list-more : (r.kind ≡ 1 → ⊥) → {address : ℕ} → r.address ≡ address
        → CollectingList w₀ w all rs offsets n base k (option_or start (Some address)) count
    list-more plain {address} at =
        moved k (option_or start (Some address)) (omega arith) (turn (sequence_of start) ∙ rw (at, ne_eqb r.kind 1 plain, start-more start address))
