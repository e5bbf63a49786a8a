-- `line::put_entry` meets its contract: four writes are a row.
use Rattle.rows.proofs.StoredLaws.{put-entry}
use Rattle.rows.proofs.line.put_entry.Goals as goal

pub returns : goal.returns
returns c = search put-entry
