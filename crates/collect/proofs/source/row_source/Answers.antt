-- `source::row_source` meets its contract: the first field 1d of the unit, if it has one.
use Rattle.collect.proofs.source.SourceLaws.{encoding-within, source-fields, source-program}
use Rattle.collect.proofs.source.row_source.Goals as goal

pub returns-in_err-field : goal.returns-in_err-field
returns-in_err-field c = rw c.from_residual.ensures (source-fields _ _ c.in_err-field.ensures)

pub read_encoding-requires : goal.read_encoding-requires
read_encoding-requires c = encoding-within c.requires c.in_ok-field.ensures

pub returns : goal.returns
returns c = source-program c.requires c.in_ok-field.ensures _ _ c.read_encoding.ensures _ c.opcode_base.ensures _ c.args.program c.lengths.ensures
