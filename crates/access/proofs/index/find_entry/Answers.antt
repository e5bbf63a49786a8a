-- `index::find_entry` meets its contract. The entry of the offset stands at the number of lower ones, or nowhere.
use Rattle.access.proofs.index.FindLaws.{found-past, found-other, found_at}
use Rattle.access.proofs.index.find_entry.Goals as goal

pub returns : goal.returns
returns c = search found_at

pub returns-then-entries-i : goal.returns-then-entries-i
returns-then-entries-i c = search found-past

pub returns-then-read-offset : goal.returns-then-read-offset
returns-then-read-offset c = search found-other
