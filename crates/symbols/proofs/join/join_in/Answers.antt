-- `join::join_in` meets its contract.
use Rattle.symbols.proofs.join.AnswerLaws.{join-misshapen, join-bad, join-no-copy, join-standing, join-known, join-short, join-done}
use Rattle.symbols.proofs.join.join_in.Goals as goal

pub returns-then-not-check_records : goal.returns-then-not-check_records
returns-then-not-check_records c = search join-misshapen

pub returns-then-not-check_symbols : goal.returns-then-not-check_symbols
returns-then-not-check_symbols c = search join-bad

pub returns-then-res-copied : goal.returns-then-res-copied
returns-then-res-copied c = search join-no-copy

pub join_all-n-requires-clause-standing : goal.join_all-n-requires-clause-standing
join_all-n-requires-clause-standing c = search join-standing

pub join_all-n-requires-clause-known : goal.join_all-n-requires-clause-known
join_all-n-requires-clause-known c = search join-known

pub returns-then-res-n : goal.returns-then-res-n
returns-then-res-n c = search join-short

pub returns : goal.returns
returns c = search join-done
