-- `operand::read_line_uleb` meets its contract. The value so far, what a bit more is worth, and what is left.
use Prim.Native.Nat.{◌%◌}
use native.Mathlib.Omega.{arith}
use Rattle.line_program.proofs.UlebLaws.{reading-start, turn-cut, turn-overflow, turn-tenth, turn-overlong, turn_end, turn_more, fits_more, roomy}
use Rattle.line_program.proofs.operand.read_line_uleb.Goals as goal

pub loop-p-init : goal.loop-p-init
loop-p-init c = reading-start _ _

pub overflow_mul-result-then-byte-lt128-2 : goal.overflow_mul-result-then-byte-lt128-2
overflow_mul-result-then-byte-lt128-2 c = let l = c.loop-p in
    omega (arith, fits_more l.value l.scale l.left c.from-byte.result l.invariant.scaled l.invariant.below c.if-left-eq0.false (omega arith))

pub overflow_add-result-then-byte-lt128-2 : goal.overflow_add-result-then-byte-lt128-2
overflow_add-result-then-byte-lt128-2 c = let l = c.loop-p in
    omega (arith, fits_more l.value l.scale l.left c.from-byte.result l.invariant.scaled l.invariant.below c.if-left-eq0.false (omega arith))

pub overflow_mul-value : goal.overflow_mul-value
overflow_mul-value c = let l = c.loop-p in
    omega (arith, fits_more l.value l.scale l.left (c.from-byte.result % 128) l.invariant.scaled l.invariant.below c.if-left-eq0.false (omega arith))

pub overflow_add-value : goal.overflow_add-value
overflow_add-value c = let l = c.loop-p in
    omega (arith, fits_more l.value l.scale l.left (c.from-byte.result % 128) l.invariant.scaled l.invariant.below c.if-left-eq0.false (omega arith))

pub overflow_mul-scale : goal.overflow_mul-scale
overflow_mul-scale c = let l = c.loop-p in omega (arith, roomy l.scale l.left l.invariant.scaled c.if-left-eq0.false)

pub loop-p-preserved : goal.loop-p-preserved
loop-p-preserved c = search turn_more

pub returns-then-byte-gt1 : goal.returns-then-byte-gt1
returns-then-byte-gt1 c = search turn-overflow

pub returns-then-byte-lt128 : goal.returns-then-byte-lt128
returns-then-byte-lt128 c = search turn-tenth

pub returns-then-byte-lt128-2 : goal.returns-then-byte-lt128-2
returns-then-byte-lt128-2 c = search turn_end

pub returns-then-left-eq0 : goal.returns-then-left-eq0
returns-then-left-eq0 c = search turn-overlong

pub returns-then-program-p : goal.returns-then-program-p
returns-then-program-p c = search turn-cut
