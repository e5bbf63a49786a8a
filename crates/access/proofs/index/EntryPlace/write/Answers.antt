-- `EntryPlace::write` meets its contract. The three numbers of a record are written one after the other.
use Rattle.access.proofs.IndexLaws.{put-indexed}
use Rattle.access.proofs.index.EntryPlace.write.Goals as goal

pub returns : goal.returns
returns c = search put-indexed
