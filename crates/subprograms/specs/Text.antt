-- Contract. A unit's executable ranges in the work slice.
use Rattle.std.specs.Prelude.{◌≡◌, List, ℕ, ◌*◌, length}
use Rattle.tlv.specs.declared.model.AddressRange.{AddressRange}
use Rattle.buffers.specs.declared.table.Stored.{Stored}
use Rattle.buffers.specs.Table.{Kept}
use Rattle.access.specs.Places.{unit_here}
use Rattle.ranges.specs.RangeTable.{ranges_at, range_record}

-- the executable ranges of the unit at p were written from base on
pub record TextIndexed (s w w' : List ℕ) (p base : ℕ) (r : Stored AddressRange) : Type 0 where
  pub base_is : r.base ≡ base
  pub table : ranges_at w' r.base r.count ≡ (unit_here s p).text
  pub count : r.count ≡ length (unit_here s p).text
  pub rest : Kept w w' base (range_record * r.count)
