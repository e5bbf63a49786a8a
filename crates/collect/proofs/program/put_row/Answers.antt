-- `program::put_row` meets its contract: five writes are a row.
use Rattle.collect.proofs.program.GatherLaws.{row_put}
use Rattle.collect.proofs.program.put_row.Goals as goal

pub returns : goal.returns
returns c = row_put c.args.r c.shown_column-column.ensures c.write.ensures c.write-2.ensures c.write-3.ensures c.write-4.ensures c.write-5.ensures
