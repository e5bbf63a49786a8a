-- `normalize::drop_repeats` meets its contract: what is left so far and what the rest leaves are what the whole leaves.
use Prim.Native.Nat.{◌<◌}
use native.Mathlib.Omega.{arith}
use Rattle.buffers.proofs.TableLaws.{inside}
use Rattle.rows.proofs.normalize.DropLaws.{dropping-start, dropping_same, dropping-other, dropping-done, dropped-nothing}
use Rattle.rows.proofs.normalize.drop_repeats.Goals as goal
use Rattle.rows.proofs.normalize.drop_repeats.Goals.{then-not-repeats, else-not-repeats}

pub returns-then-rows-eq0-clause-dropped : goal.returns-then-rows-eq0-clause-dropped
returns-then-rows-eq0-clause-dropped g c = λ equal tests. dropped-nothing (λ b. b) c.args.size equal c.args.work.now c.args.rows.base c.args.rows.count c.if-rows-eq0.true

pub loop-i-init : goal.loop-i-init
loop-i-init g c = (omega arith, λ equal tests. dropping-start (λ b. b) c.args.size equal c.args.work.now c.args.rows.base c.args.rows.count (omega arith))

pub loop-i-preserved : goal.loop-i-preserved
loop-i-preserved g c =
    let order : c.loop-i.last < c.loop-i.i = c.loop-i.invariant.0 in
    let last_in = inside c.loop-i.last c.args.rows.count c.args.size (omega arith) in
    let i_in = inside c.loop-i.i c.args.rows.count c.args.size (omega arith) in
    elim c.if-not-repeats.branch [
      | then-not-repeats w ↦ rw (w.work-is, w.last-is) (
        omega arith,
        λ equal tests. dropping-other (c.loop-i.invariant.1 equal tests) c.loop-i-test.true
            (tests _ _ _ _ (omega arith) (omega arith) c.repeats.ensures) w.if-not-repeats.true w.copy_record.ensures w.copy_record.auto.w,
      )
      | else-not-repeats w ↦ rw (w.work-is, w.last-is) (
        omega arith,
        λ equal tests. dropping_same (c.loop-i.invariant.1 equal tests) c.loop-i-test.true
            (tests _ _ _ _ (omega arith) (omega arith) c.repeats.ensures) w.if-not-repeats.false,
      )
    ]

pub returns-clause-dropped : goal.returns-clause-dropped
returns-clause-dropped g c = λ equal tests. dropping-done (c.loop-i.invariant.1 equal tests) c.loop-i-test.false
