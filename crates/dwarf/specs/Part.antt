-- Contract. Where a unit's part of the lent line program stands, by its field 1e.
use Rattle.std.specs.Prelude.{◌≡◌, List, ℕ, ◌-◌, ◌≤◌, length, take, drop}
use Rattle.tlv.specs.Model.{program_of}
use Rattle.access.specs.Places.{unit_here}
use Rattle.dwarf.specs.declared.part.Part.{Part}

-- from `start` to below `end` stands the part of the unit at place p of s, in every program of so many bytes. A part past the program is cut off at its end,
-- as the definition does it; the grammar lets none pass
pub record PartOf (s : List ℕ) (p size : ℕ) (r : Part) : Type 0 where
  pub order : r.start ≤ r.end
  pub within : r.end ≤ size
  pub is : (program : List ℕ) → length program ≡ size → take (r.end - r.start) (drop r.start program) ≡ program_of (unit_here s p) program
