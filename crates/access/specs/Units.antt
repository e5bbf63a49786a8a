-- Contract. The table of a sheet's units in the work slice, and a search in it: what its functions promise.
use Rattle.std.specs.Prelude.{◌≡◌, Bool, ◌&&◌, List, map, ℕ, ◌+◌, ◌*◌, leb, ltb, length}
use Rattle.std.proofs.Math.Option.{Option}
use Rattle.tlv.specs.Lists.{first, map_option}
use Rattle.tlv.specs.Bytes.{le_at}
use Rattle.tlv.specs.Fields.{fields}
use Rattle.buffers.specs.Table.{chunk, records, Kept}
use Rattle.access.specs.declared.units.UnitSpan.{UnitSpan}
use Rattle.access.specs.Places.{unit_here, unit_places}

-- bytes of a record of the table
abbrev pub unit_record : ℕ
unit_record = 24

-- a unit in the table: its offset in the section, its length, and its place
pub record IndexedUnit : Type 0 where
  pub offset : ℕ
  pub length : ℕ
  pub place : ℕ

-- that of the unit at a place
unfoldable pub indexed_unit : List ℕ → ℕ → IndexedUnit
indexed_unit s q = record { offset = (unit_here s q).offset; length = (unit_here s q).length; place = q }

-- a record of the table, of 24 bytes: offset in the section 8 bytes, length 8 bytes, place of its field 10 8 bytes
unfoldable pub unit_of24 : List ℕ → IndexedUnit
unit_of24 r = record { offset = le_at 8 r 0; length = le_at 8 r 8; place = le_at 8 r 16 }

-- what the code says of a unit in the table
abbrev pub spans : UnitSpan → IndexedUnit
spans u = record { offset = u.offset; length = u.length; place = u.place }

-- a record was written at p
pub record PutUnit (w w' : List ℕ) (p offset size place : ℕ) : Type 0 where
  pub unit : unit_of24 (chunk w' p unit_record) ≡ record { offset = offset; length = size; place = place }
  pub rest : Kept w w' p unit_record

-- the r units of a sheet were written from base on
pub record IndexedUnits (s w w' : List ℕ) (base r : ℕ) : Type 0 where
  pub table : records unit_of24 unit_record w' base r ≡ map (indexed_unit s) (unit_places 0 (fields s))
  pub count : r ≡ length (unit_places 0 (fields s))
  pub rest : Kept w w' base (unit_record * r)
  pub size : length w' ≡ length w

-- ---- a search

-- target is one of the size bytes from offset on
abbrev pub within : ℕ → ℕ → ℕ → Bool
within target offset size = leb offset target && ltb target (offset + size)

-- the place of the first unit of a table that has target in it
abbrev pub containing : ℕ → List IndexedUnit → Option ℕ
containing target us = map_option (λ u. u.place) (first (λ u. within target u.offset u.length) us)
