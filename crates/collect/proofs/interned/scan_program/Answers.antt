-- `interned::scan_program` meets its contract: what was read of the header, with its opcode lengths, is the header.
use Rattle.collect.proofs.HeaderPlaces.{header-with}
use Rattle.collect.proofs.interned.scan_program.Goals as goal

pub returns : goal.returns
returns c = rw (header-with c.header.ensures c.lengths.ensures) at c.line_sequence_offsets.ensures
