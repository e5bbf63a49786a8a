-- What is known of the sizes and the order of what a unit's lines become. The other files of this folder show it.
use Prim.Native.Nat.{ℕ, ◌+◌, ◌^◌, ◌≤◌, ◌<◌}
use mathlib.Core.List.{List}
use lib.ListN.{length}
use Rattle.tlv.specs.declared.model.FileIndex.{FileIndex}
use Rattle.tlv.specs.Lists.{All}
use Rattle.tlv.specs.Accepted.{Given}
use Rattle.tlv.proofs.SortLaws.{Ascending}
use Rattle.buffers.specs.Fits.{LineFits, FileFits, WarningFits}
use Rattle.lines.specs.Files.{FileTable, FileIndices, Indexed}
use Rattle.lines.specs.Lines.{SequencedLine, UnitLines, Collected}

-- a table's numbers have 32 bits, and its files fit their fields
pub record TableFits (t : FileTable) : Type 0 where
  pub few : t.first + length t.entries ≤ 2 ^ 32
  pub files : All FileFits t.entries

abbrev pub IndexFits : FileIndex → Type 0
IndexFits i = i.0 < 2 ^ 32

abbrev pub IndicesFit : FileIndices → Type 0
IndicesFit is = All (Given IndexFits) is

pub record IndexedFits (i : Indexed) : Type 0 where
  pub table : TableFits i.table
  pub indices : IndicesFit i.indices

-- the first row's address is at least a, and each later one's at least the one's before it
abbrev pub Sorted : ℕ → List SequencedLine → Type 0
Sorted = Ascending (λ x. x.entry.address)

pub record LinesFit (l : UnitLines) : Type 0 where
  pub entries : All (λ x. LineFits x.entry) l.entries
  pub sorted : Sorted 0 l.entries
  pub files : IndicesFit l.files

pub record CollectedFits (c : Collected) : Type 0 where
  pub table : TableFits c.table
  pub lines : LinesFit c.lines
  pub warnings : All WarningFits c.warnings
