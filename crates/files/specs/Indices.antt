-- Contract. A unit's map from DWARF's file numbers to the table's, in a list of bytes (the Rust's FileIndices).
use Rattle.std.specs.Prelude.{Option, Some, None, ℕ, ◌*◌, ◌≡◌, cond, List, eqb}
use Rattle.std.proofs.Math.Option.{none, some}
use Rattle.std.proofs.Math.Option as math
use Rattle.tlv.specs.declared.model.FileIndex.{FileIndex}
use Rattle.tlv.specs.Bytes.{le_at}
use Rattle.buffers.specs.declared.table.Stored.{Stored}
use Rattle.buffers.specs.Table.{chunk, records, Kept}
use Rattle.lines.specs.Files.{FileIndices, file_index, insert_index}
use Rattle.files.specs.declared.index.FileNumber.{FileNumber}

-- bytes of a record: whether there is a number 1, the number 4
abbrev pub index_record : ℕ
index_record = 5

unfoldable pub index_of : List ℕ → math.Option FileIndex
index_of b = cond (eqb (le_at 1 b 0) 1) (some (file_index (le_at 4 b 1))) none

unfoldable pub indices_of : List ℕ → ℕ → ℕ → FileIndices
indices_of w base n = records index_of 5 w base n

-- the map that stands in w
abbrev pub indices_in : List ℕ → Stored FileIndex → FileIndices
indices_in w is = indices_of w is.base is.count

abbrev pub number_of : Option FileIndex → math.Option FileIndex
number_of (Some n) = some n
number_of None = none

-- a record was written at p
pub record PutIndex (w w' : List ℕ) (p : ℕ) (o : math.Option FileIndex) : Type 0 where
  pub index : index_of (chunk w' p 5) ≡ o
  pub rest : Kept w w' p 5

-- FileIndices::insert
pub record Inserted (w w' : List ℕ) (is : Stored FileIndex) (n : FileNumber) (i : FileIndex) : Type 0 where
  pub indices : indices_in w' is ≡ insert_index (indices_in w is) n.0 i
  pub rest : Kept w w' is.base (is.count * index_record)
