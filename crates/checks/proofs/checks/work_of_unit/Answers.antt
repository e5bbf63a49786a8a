-- `checks::work_of_unit` meets its contract.
use Rattle.checks.proofs.WorkLaws.{unit-work}
use Rattle.checks.proofs.checks.work_of_unit.Goals as goal

pub returns : goal.returns
returns c = unit-work c.requires c.args.sizes.program c.args.sizes.lists c.has_encoding.ensures c.work_of_program-program.ensures c.list_count.ensures c.work_of_lists.ensures
