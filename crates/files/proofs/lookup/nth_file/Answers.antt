-- `lookup::nth_file` meets its contract. The loop's invariant: the file that is looked for has the number `left` among those from `at` on; the measure is
-- what is left of the sheet.
use Rattle.files.proofs.lookup.LookupLaws.{passing-over, passing-found, passing-next}
use Rattle.files.proofs.lookup.nth_file.Goals as goal

pub returns-then-left-eq0 : goal.returns-then-left-eq0
returns-then-left-eq0 c = search (passing-found, c.in-Some.ensures)

pub loop-field-preserved : goal.loop-field-preserved
loop-field-preserved c = search (passing-next, c.in-Some.ensures)

pub returns : goal.returns
returns c = search (passing-over, c.in_default.ensures)
