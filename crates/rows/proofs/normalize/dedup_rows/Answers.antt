-- `normalize::dedup_rows` meets its contract.
use Rattle.lines.specs.Lines.{same_row}
use Rattle.rows.specs.Stored.{line_of, line_at}
use Rattle.rows.proofs.normalize.DropLaws.{by, deduped}
use Rattle.rows.proofs.normalize.dedup_rows.Goals as goal

pub returns : goal.returns
unfolding line_at
returns c = deduped (c.drop_repeats.ensures.dropped (by line_of same_row) (λ w p q r p_in q_in e. e))
