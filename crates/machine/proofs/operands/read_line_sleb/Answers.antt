-- `operands::read_line_sleb` meets its contract: the value so far, what a bit more is worth, and what is left.
use Rattle.std.proofs.Common.{◌<◌, ◌*◌, ◌%◌, ◌≤◌, mul-le-mul_right, arith}
use Rattle.line_program.proofs.UlebLaws.{roomy}
use Rattle.machine.proofs.operands.SlebLaws.{signed-start, signed_cut, signed-zero, signed-minus, signed-long}
use Rattle.machine.proofs.operands.SlebLaws.{signed-overflow, signed-room, signed-end, signed-more}
use Rattle.machine.proofs.operands.read_line_sleb.Goals as goal

pub loop-p-init : goal.loop-p-init
loop-p-init c = signed-start _ _

pub signed_value-requires : goal.signed_value-requires
signed_value-requires c = (omega arith, c.loop-p.invariant.below, search signed-room)

pub overflow_mul-value : goal.overflow_mul-value
overflow_mul-value c = let f = roomy c.loop-p.scale c.loop-p.left c.loop-p.invariant.scaled c.if-left-eq0.false in
    let t : c.from-byte.result % 128 * c.loop-p.scale ≤ 127 * c.loop-p.scale = mul-le-mul_right c.loop-p.scale (omega arith) in omega arith

pub overflow_add-value : goal.overflow_add-value
overflow_add-value c = let f = roomy c.loop-p.scale c.loop-p.left c.loop-p.invariant.scaled c.if-left-eq0.false in
    let t : c.from-byte.result % 128 * c.loop-p.scale ≤ 127 * c.loop-p.scale = mul-le-mul_right c.loop-p.scale (omega arith) in
    omega (arith, c.loop-p.invariant.below)

pub loop-p-preserved : goal.loop-p-preserved
loop-p-preserved c = search signed-more

pub overflow_mul-scale : goal.overflow_mul-scale
overflow_mul-scale c = omega (arith, roomy c.loop-p.scale c.loop-p.left c.loop-p.invariant.scaled c.if-left-eq0.false)

pub returns-then-byte-lt128 : goal.returns-then-byte-lt128
returns-then-byte-lt128 c = search signed-end

pub returns-then-program-p : goal.returns-then-program-p
returns-then-program-p c = search signed_cut

pub returns-in-0 : goal.returns-in-0
returns-in-0 c = search signed-zero

pub returns-in-127 : goal.returns-in-127
returns-in-127 c = search signed-minus

pub returns-in-128 : goal.returns-in-128
returns-in-128 c = search signed-long

pub returns-in_default : goal.returns-in_default
returns-in_default c = let u : c.from-byte.result < 256 = omega (arith, c.type_inv.program c.loop-p.p) in
    signed-overflow _ _ _ _ _ _ _ c.loop-p.invariant c.if-program-p.false c.from-byte.ensures c.if-left-eq0.true u (λ q. omega arith) (λ q. omega arith) (λ q. grind arith) (λ q. grind arith)
