-- `collect::collect_header` meets its contract: the program's sequences, the unit's files and the rows, one after the other.
use native.Mathlib.Omega.{arith}
use mathlib.Core.Path.{◌∙◌}
use Rattle.files.proofs.UnitLaws.{unit-within}
use Rattle.collect.proofs.HeaderPlaces.{unit-stands, unit-listed}
use Rattle.collect.proofs.CollectSteps.{rows-placed}
use Rattle.collect.proofs.collect.CollectLaws.{found-placed, fault-room, scan-room, collected-fault, scanned-small, scanned-files}
use Rattle.collect.proofs.collect.CollectLaws.{scanned-room, collected-unnumbered}
use Rattle.collect.proofs.collect.CollectLaws.{interned-fits, interned-placed, conversion-in, conversion-fits, collected-end}
use Rattle.collect.proofs.collect.collect_header.Goals as goal

pub overflow_add-p : goal.overflow_add-p
overflow_add-p c = let w = unit-within (unit-stands c.requires.placed c.requires.unit) in omega arith

pub row_source-source-requires : goal.row_source-source-requires
row_source-source-requires c = rows-placed c.requires.placed c.requires.unit

pub scan_program-requires : goal.scan_program-requires
scan_program-requires c = scan-room c.args.u.sheets c.requires c.row_source-source.ensures

pub row_fault-requires-clause-placed : goal.row_fault-requires-clause-placed
row_fault-requires-clause-placed c = found-placed c.args.u.sheets c.requires c.row_source-source.ensures

pub intern_unit-requires-clause-unit_placed : goal.intern_unit-requires-clause-unit_placed
intern_unit-requires-clause-unit_placed c = unit-stands c.requires.placed c.requires.unit

pub intern_unit-requires-clause-listed : goal.intern_unit-requires-clause-listed
intern_unit-requires-clause-listed c = unit-listed c.requires.placed c.requires.unit c.args.u.sheets.supplementary.now
    c.requires.header

pub row_fault-requires-clause-rows_fit : goal.row_fault-requires-clause-rows_fit
row_fault-requires-clause-rows_fit c = omega (arith, fault-room c.args.u.sheets c.requires c.row_source-source.ensures, c.scan_program.auto.work)

pub returns-in-Err : goal.returns-in-Err
returns-in-Err c = rw c.unwrap_or.ensures (collected-fault c.args.u.sheets c.requires c.row_source-source.ensures c.in-Err.ensures c.row_fault.ensures)

pub overflow_mul-base : goal.overflow_mul-base
overflow_mul-base c = let s = scanned-small c.args.u.sheets c.requires c.row_source-source.ensures c.in-Ok.ensures c.scan_program.auto.work in
    omega (arith, s, c.well_formed.1.1.0)

pub overflow_add-base : goal.overflow_add-base
overflow_add-base c = let s = scanned-small c.args.u.sheets c.requires c.row_source-source.ensures c.in-Ok.ensures c.scan_program.auto.work in
    omega (arith, s, c.well_formed.1.1.0)

pub intern_unit-requires-clause-files_in : goal.intern_unit-requires-clause-files_in
intern_unit-requires-clause-files_in c = scanned-files c.args.u.sheets c.requires c.row_source-source.ensures c.in-Ok.ensures c.scan_program.auto.work

pub intern_unit-requires-clause-unit_room : goal.intern_unit-requires-clause-unit_room
intern_unit-requires-clause-unit_room c = scanned-room c.args.u.sheets c.requires c.row_source-source.ensures c.in-Ok.ensures c.scan_program.auto.work

pub row_fault-requires-in-Err-intern_unit-clause-placed : goal.row_fault-requires-in-Err-intern_unit-clause-placed
row_fault-requires-in-Err-intern_unit-clause-placed c = found-placed c.args.u.sheets c.requires c.row_source-source.ensures

pub row_fault-requires-in-Err-intern_unit-clause-rows_fit : goal.row_fault-requires-in-Err-intern_unit-clause-rows_fit
row_fault-requires-in-Err-intern_unit-clause-rows_fit c = omega (arith, fault-room c.args.u.sheets c.requires c.row_source-source.ensures, c.scan_program.auto.work, c.intern_unit.auto.work)

pub returns-in-Err-intern_unit : goal.returns-in-Err-intern_unit
returns-in-Err-intern_unit c = rw c.unwrap_or-in-Err-intern_unit.ensures (collected-unnumbered c.args.u.sheets c.requires c.row_source-source.ensures c.in-Ok.ensures c.scan_program.auto.work c.in-Err-intern_unit.ensures c.row_fault-in-Err-intern_unit.ensures)

pub new-c-requires-clause-placed : goal.new-c-requires-clause-placed
new-c-requires-clause-placed c = interned-placed c.args.u.sheets c.requires c.row_source-source.ensures c.in-Ok.ensures c.scan_program.auto.work c.in-Ok-intern_unit.ensures

pub new-c-requires-clause-map_within : goal.new-c-requires-clause-map_within
new-c-requires-clause-map_within c = let all = interned-fits c.args.u.sheets c.requires c.row_source-source.ensures c.in-Ok.ensures c.scan_program.auto.work c.in-Ok-intern_unit.ensures in
    omega (arith, all, c.well_formed.1.1.0)

pub collect_rows-requires-clause-conversion_in : goal.collect_rows-requires-clause-conversion_in
collect_rows-requires-clause-conversion_in c = let last = c.intern_unit.auto.work ∙ c.scan_program.auto.work in
    conversion-in c.args.u.sheets c.requires c.row_source-source.ensures c.in-Ok.ensures c.scan_program.auto.work c.in-Ok-intern_unit.ensures c.new-offsets.ensures.based c.new-offsets.ensures.counted c.new-c.ensures c.args.warned last

pub collect_rows-requires-clause-lines_fit : goal.collect_rows-requires-clause-lines_fit
collect_rows-requires-clause-lines_fit c = let last = c.intern_unit.auto.work ∙ c.scan_program.auto.work in
    conversion-fits c.args.u.sheets c.requires c.row_source-source.ensures c.in-Ok.ensures c.scan_program.auto.work c.in-Ok-intern_unit.ensures c.new-offsets.ensures.based c.new-offsets.ensures.counted c.new-c.ensures last

pub returns : goal.returns
returns c = collected-end c.args.u.sheets c.requires c.row_source-source.ensures c.in-Ok.ensures c.scan_program.auto.work c.in-Ok-intern_unit.ensures c.new-offsets.ensures.based c.new-offsets.ensures.counted c.new-c.ensures c.collect_rows.ensures
