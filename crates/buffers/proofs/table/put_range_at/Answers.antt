-- A range is written by its two numbers.
use Rattle.buffers.proofs.OptionLaws.{put-range}
use Rattle.buffers.proofs.table.put_range_at.Goals as goal

pub returns : goal.returns
returns c = put-range c.write.ensures c.write-2.ensures
