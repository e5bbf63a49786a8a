-- `lists::put_fault` meets its contract.
use Rattle.subprograms.proofs.lists.ListStepLaws.{fault-digit, fault-digits}
use Rattle.subprograms.proofs.lists.put_fault.Goals as goal

pub returns-then-n-lt10 : goal.returns-then-n-lt10
returns-then-n-lt10 c = fault-digit c.args.n c.if-n-lt10.true c.put_malformed_ranges.ensures

pub returns : goal.returns
returns c = fault-digits c.args.n c.if-n-lt10.false c.put_malformed_ranges-2.ensures
