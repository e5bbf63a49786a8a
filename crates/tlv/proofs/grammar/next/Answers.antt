-- `grammar::next` meets its contract: what the grammar says of a field keeps the sums below 2 ^ 64.
use native.Mathlib.Omega.{arith}
use Rattle.std.proofs.lemmas.Grind.{common_steps}
use Rattle.tlv.specs.Grammar.{shaped, limited, payload_shaped, payload_limited, unit_shaped, entry_shaped}
use Rattle.tlv.proofs.grammar.next.Goals as goal

pub overflow_add-after : goal.overflow_add-after
unfolding limited
overflow_add-after c = grind (arith, common_steps)

pub overflow_add-result : goal.overflow_add-result
unfolding limited payload_limited
overflow_add-result c = grind (arith, common_steps)

pub overflow_add-result-in-16 : goal.overflow_add-result-in-16
unfolding shaped payload_shaped unit_shaped
overflow_add-result-in-16 c = grind (arith, common_steps)

pub overflow_add-result-in-23 : goal.overflow_add-result-in-23
unfolding shaped limited payload_limited payload_shaped entry_shaped
overflow_add-result-in-23 c = grind (arith, common_steps)
