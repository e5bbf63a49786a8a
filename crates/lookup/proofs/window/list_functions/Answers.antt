-- `window::list_functions` meets its contract.
use Rattle.lookup.proofs.window.ListingLaws.{list-misshapen, list-short, list-none, list_done}
use Rattle.lookup.proofs.window.list_functions.Goals as goal

pub returns-then-not-check_records : goal.returns-then-not-check_records
returns-then-not-check_records g c = record { listed = λ test t. search list-misshapen }

pub returns-then-list-n : goal.returns-then-list-n
returns-then-list-n g c = record { listed = λ test t. let laid = c.put_functions-n.ensures.laid test t in search (list-short, laid) }

pub returns-then-n-eq0 : goal.returns-then-n-eq0
returns-then-n-eq0 g c = record { listed = λ test t. let laid = c.put_functions-n.ensures.laid test t in search (list-none, laid) }

pub returns : goal.returns
returns g c = record { listed = λ test t. let laid = c.put_functions-n.ensures.laid test t in search (list_done, laid) }
