-- Contract. The index of a sheet's entries in the work slice, and a search in it: what its functions promise.
use Rattle.std.specs.Prelude.{Option, Some, None, ◌≡◌, cond, List, [], ◌∷◌, ℕ, suc, ◌*◌, ◌≤◌, eqb, ltb, length}
use Rattle.std.proofs.Math.Option.{none, some}
use Rattle.std.proofs.Math.Option as math
use Rattle.tlv.specs.Lists.{first}
use Rattle.tlv.specs.Bytes.{le_at}
use Rattle.tlv.specs.Fields.{fields}
use Rattle.tlv.specs.Model.{Entry}
use Rattle.buffers.specs.Table.{chunk, records, Kept}
use Rattle.access.specs.declared.index.EntryPlace.{EntryPlace}
use Rattle.access.specs.Places.{IndexedEntry, entry_index, entry_here}

-- bytes of a record of the table
abbrev pub entry_record : ℕ
entry_record = 16

-- a record of the index, of 16 bytes: offset in the section 8 bytes, place of its field 17 4 bytes, place of its unit's field 10 4 bytes
unfoldable pub indexed_of : List ℕ → IndexedEntry
indexed_of r = record { offset = le_at 8 r 0; place = le_at 4 r 8; unit = le_at 4 r 12 }

-- a record was written at p
pub record PutEntry (w w' : List ℕ) (p offset place unit : ℕ) : Type 0 where
  pub entry : indexed_of (chunk w' p entry_record) ≡ record { offset = offset; place = place; unit = unit }
  pub rest : Kept w w' p entry_record

-- the r entries of a sheet were written from base on
pub record Indexed (s w w' : List ℕ) (base r : ℕ) : Type 0 where
  pub table : records indexed_of entry_record w' base r ≡ entry_index 0 0 0 (fields s)
  pub count : r ≡ length (entry_index 0 0 0 (fields s))
  pub rest : Kept w w' base (entry_record * r)
  pub size : length w' ≡ length w

-- ---- a search

-- the offsets strictly ascend, from k on
unfoldable pub RisingFrom : ℕ → List IndexedEntry → Type 0
RisingFrom k [] = Unit {0}
RisingFrom k (e ∷ es) = (k ≤ e.offset) × RisingFrom (suc e.offset) es

abbrev pub Rising : List IndexedEntry → Type 0
Rising es = RisingFrom 0 es

-- the first entry of an offset
unfoldable pub lookup : ℕ → List IndexedEntry → math.Option IndexedEntry
lookup o es = first (λ e. eqb e.offset o) es

-- how many entries stand before the first whose offset is o or more
unfoldable pub lower_than : ℕ → List IndexedEntry → ℕ
lower_than o [] = 0
lower_than o (e ∷ es) = cond (ltb e.offset o) (suc (lower_than o es)) 0

-- the entry that an answer to a search for o stands for
abbrev pub found_of : ℕ → Option EntryPlace → math.Option IndexedEntry
found_of o (Some e) = some (record { offset = o; place = e.place; unit = e.unit })
found_of o None = none

-- the entry of the unit at q that an entry of the index stands for: none if it is another unit's
unfoldable pub entry_in : List ℕ → ℕ → math.Option IndexedEntry → math.Option Entry
entry_in s q none = none
entry_in s q (some e) = cond (eqb e.unit q) (some (entry_here s e.place)) none
