-- `unit_rows::UnitRows::first` meets its contract: the next field, or the front of the table.
use Rattle.collect.proofs.unit_rows.FoundLaws.{no-field, field-within, found-field, no-row, found-row}
use Rattle.collect.proofs.unit_rows.UnitRows.first.Goals as goal

pub returns-in_err-field-in-Fields : goal.returns-in_err-field-in-Fields
returns-in_err-field-in-Fields c = rw c.from_residual.ensures (no-field c.args.main.now c.args.work.now c.args.self c.in-Fields.is c.args.sequence c.in_err-field-in-Fields.ensures)

pub read-requires : goal.read-requires
read-requires c = field-within c.args.main.now c.args.work.now c.args.self c.in-Fields.is c.in_ok-field-in-Fields.ensures c.requires

pub returns-in_ok-field-in-Fields : goal.returns-in_ok-field-in-Fields
returns-in_ok-field-in-Fields c = found-field c.args.main.now c.args.work.now c.args.self c.in-Fields.is c.in_ok-field-in-Fields.ensures c.requires c.read.ensures

pub returns-then-table-eq0 : goal.returns-then-table-eq0
returns-then-table-eq0 c = no-row c.args.main.now c.args.work.now c.args.self c.in-Table.is c.args.sequence c.if-table-eq0.true

pub returns-else-table-eq0 : goal.returns-else-table-eq0
returns-else-table-eq0 c = found-row c.args.main.now c.args.work.now c.args.self c.in-Table.is c.if-table-eq0.false c.requires c.new-rest.ensures.based c.new-rest.ensures.counted c.read-in-Table.ensures
