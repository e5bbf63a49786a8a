-- `normalize::compact_line_rows` meets its contract.
use Rattle.lines.specs.Lines.{same_line}
use Rattle.rows.specs.Stored.{entry_of}
use Rattle.rows.proofs.normalize.DropLaws.{by, compacted}
use Rattle.rows.proofs.normalize.compact_line_rows.Goals as goal

pub returns : goal.returns
returns c = compacted (c.drop_repeats.ensures.dropped (by entry_of same_line) (λ w p q r p_in q_in e. e))
