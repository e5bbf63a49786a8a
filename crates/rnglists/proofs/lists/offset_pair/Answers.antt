-- `lists::offset_pair` meets its contract.
use Rattle.rnglists.proofs.lists.MeaningLaws.{pair-base, pair-dies, pair_end, pair-by}
use Rattle.rnglists.proofs.lists.offset_pair.Goals as goal

pub returns : goal.returns
returns c = search pair-by

pub returns-then-room-second : goal.returns-then-room-second
returns-then-room-second c = search pair_end

pub returns-then-start-top : goal.returns-then-start-top
returns-then-start-top c = search pair-dies

pub returns-then-top-base : goal.returns-then-top-base
returns-then-top-base c = search pair-base
