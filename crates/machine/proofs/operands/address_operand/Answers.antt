-- `operands::address_operand` meets its contract: the bytes that were passed make the value.
use Rattle.std.proofs.Common.{◌∙◌, ap, arith}
use Rattle.std.proofs.lemmas.Iterator.Adapters.{YieldsList-from_rev_slice}
use Rattle.std.proofs.lemmas.Iterator.Consumers.{YieldsList-turn}
use Rattle.std.proofs.lemmas.List.{length_push}
use Rattle.machine.proofs.AddressLaws.{highest, highest_more, highest_past}
use Rattle.machine.proofs.operands.address_operand.Goals as goal

pub loop-byte-preserved : goal.loop-byte-preserved
loop-byte-preserved c =
    let s = c.args.bytes.now in
    let turn = YieldsList-turn (YieldsList-from_rev_slice s cc)
    c.loop-byte.yielded _ c.loop-byte.yielded_by _ _ c.in-Some.byte c.in-Some.is c.next.ensures.steps in
    let z = c.in_ok-value.ensures in
    let more = ap (highest s) (length_push c.loop-byte.yielded c.in-Some.byte) ∙ highest_more s turn in
    (omega (arith, more, c.loop-byte.invariant.0, z.1), omega (arith, z.0, z.1))

pub returns-in_err-value : goal.returns-in_err-value
returns-in_err-value c =
    let s = c.args.bytes.now in
    let turn = YieldsList-turn (YieldsList-from_rev_slice s cc)
    c.loop-byte.yielded _ c.loop-byte.yielded_by _ _ c.in-Some.byte c.in-Some.is c.next.ensures.steps in
    rw c.from_residual.ensures (omega (arith, highest_past s turn, c.loop-byte.invariant.0, c.in_err-value.ensures))
