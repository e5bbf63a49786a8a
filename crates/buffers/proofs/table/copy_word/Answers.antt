-- `table::copy_word` meets its contract. Eight bytes are read as a number, and its bytes are those.
use Rattle.tlv.proofs.PlaceFacts.{slice-bytes}
use Rattle.buffers.proofs.TableLaws.{copied-number}
use Rattle.buffers.proofs.table.copy_word.Goals as goal

pub returns : goal.returns
returns c = search (copied-number, slice-bytes)
