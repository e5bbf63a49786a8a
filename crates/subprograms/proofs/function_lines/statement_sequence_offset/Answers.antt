-- `function_lines::statement_sequence_offset` meets its contract.
use Rattle.dies.proofs.AttributeReads.{accepted-placed}
use Rattle.subprograms.proofs.function_lines.SequenceLaws.{sequence-read}
use Rattle.subprograms.proofs.function_lines.statement_sequence_offset.Goals as goal

pub attribute_at-value-requires-clause-placed : goal.attribute_at-value-requires-clause-placed
attribute_at-value-requires-clause-placed c = accepted-placed c.requires.accepted c.requires.entry_known

pub returns : goal.returns
returns c = sequence-read _ _ c.attribute_at-value.ensures c.no_sequence-limit.ensures c.sequence_in.ensures
