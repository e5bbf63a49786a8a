-- `StoredLines::for_range` meets its contract. With 0 in place of `below` too: `none_below`.
use mathlib.Core.Path.{ap}
use mathlib.Core.Bool.{not}
use Rattle.rows.proofs.ForRangeLaws.{rows-in_kept, for-missing, for-found}
use Rattle.rows.proofs.unit_lines.StoredLines.for_range.Goals as goal

pub put_earlier-fronted-requires-clause-rows_in : goal.put_earlier-fronted-requires-clause-rows_in
put_earlier-fronted-requires-clause-rows_in c = rows-in_kept c.own_rows-own.ensures.rest c.requires c.own_rows-own.auto.work

pub returns-then-not-exists : goal.returns-then-not-exists
returns-then-not-exists c = for-missing c.args.requested c.selected_sequence-asked.result c.requires c.sequence_exists-exists.ensures c.selected_sequence-asked.ensures c.own_rows-own.ensures c.put_earlier-fronted.ensures c.compact_line_rows-left.ensures c.new.ensures.based c.new.ensures.counted (ap not c.if-not-exists.true)

pub returns-else-not-exists : goal.returns-else-not-exists
returns-else-not-exists c = for-found c.args.requested c.selected_sequence-asked.result c.requires c.sequence_exists-exists.ensures c.selected_sequence-asked.ensures c.own_rows-own.ensures c.put_earlier-fronted.ensures c.compact_line_rows-left.ensures c.new.ensures.based c.new.ensures.counted (ap not c.if-not-exists.false)
