-- `table::copy_record` meets its contract: whole words, and then the bytes that are left.
use Rattle.buffers.proofs.TableLaws.{copied_rest}
use Rattle.buffers.proofs.table.copy_record.Goals as goal

pub returns : goal.returns
returns c = search copied_rest
