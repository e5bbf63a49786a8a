-- E7's cases, by computing.
use mathlib.Core.Path.{refl}
use Rattle.tlv.specs.Lists
use Rattle.lines.specs.Lines
use Rattle.lines.specs.Rows
use Rattle.lines.specs.ColumnCases.{ColumnCases}

pub column-cases : ColumnCases
unfolding Lists.filter Lists.first Lists.last Lists.or_else Lists.exists Lines.insert_row Lines.sort_rows Lines.drop_after Lines.drop_neighbours Rows.contains Rows.compact_line_rows Rows.own_rows Rows.earlier_row Rows.selected_sequence Rows.rows_for Rows.for_range
column-cases = (refl, (refl, (refl, (refl, (refl, (refl, (refl, tt)))))))
