-- `access::value_at` meets its contract. What is read is in a payload that is shaped.
use Rattle.access.proofs.access.AttributeLaws.{attribute-wide, kind-within, number-inside, says-text, says-failed, says-number}
use Rattle.access.proofs.access.value_at.Goals as goal

pub overflow_sub-left : goal.overflow_sub-left
overflow_sub-left c = search attribute-wide

pub read-kind-requires : goal.read-kind-requires
read-kind-requires c = search kind-within

pub read-requires : goal.read-requires
read-requires c = search number-inside

pub returns : goal.returns
returns c = search says-number

pub returns-then-kind-eq-FAILED_KIND : goal.returns-then-kind-eq-FAILED_KIND
returns-then-kind-eq-FAILED_KIND c = search says-failed

pub returns-then-kind-eq-TEXT_KIND : goal.returns-then-kind-eq-TEXT_KIND
returns-then-kind-eq-TEXT_KIND c = search says-text
