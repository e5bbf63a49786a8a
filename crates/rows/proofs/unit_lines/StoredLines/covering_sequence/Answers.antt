-- `StoredLines::covering_sequence` meets its contract.
use Rattle.rows.proofs.SequenceLaws.{covering-found}
use Rattle.rows.proofs.unit_lines.StoredLines.covering_sequence.Goals as goal

pub returns : goal.returns
returns c = covering-found c.args.work.now c.args.self.sequences.base c.args.self.sequences.count _ c.sequence_at.result (rw c.in_ok-i.was at c.first_covering.ensures) c.sequence_at.ensures
