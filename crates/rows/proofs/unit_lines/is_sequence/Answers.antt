-- `unit_lines::is_sequence` meets its contract.
use mathlib.Core.Path.{sym, ap, ◌∙◌}
use Rattle.lines.specs.Lines.{same_sequence}
use Rattle.rows.specs.Stored.{sequence_of}
use Rattle.rows.proofs.StoredLaws.{same-is, range-sequence}
use Rattle.rows.proofs.unit_lines.is_sequence.Goals as goal

pub returns : goal.returns
returns c = c.eq.ensures ∙ same-is c.args.requested c.sequence_at.result
    ∙ ap (same_sequence (sequence_of c.args.requested)) (c.sequence_at.ensures ∙ sym (range-sequence c.args.work.now c.args.p))
