-- `form::fields_formed` meets its contract.
use borrow.Author.Rules.{rules}
use Rattle.lookup.proofs.CheckLaws.{turn_end, turn-cut, turn-ends, turn-order, turn-payload, turn-next}
use Rattle.lookup.proofs.form.fields_formed.Goals as goal
use Rattle.lookup.proofs.form.fields_formed.Goals.{then-not-may_follow-via-then-not-may_follow, then-not-may_follow-via-else-not-may_follow+then-not-payload_formed}
use Rattle.lookup.proofs.form.fields_formed.Goals.{else-loop-p-test, then-loop-p-test+in-Some+then-ends}

pub returns-in_default : goal.returns-in_default
returns-in_default g c = record { is = λ ends t. turn-cut ends _ _ _ _ _ (c.loop-p.invariant ends t) c.loop-p-test.true c.in_default.ensures }

pub returns-then-not-may_follow : goal.returns-then-not-may_follow
returns-then-not-may_follow g c = record {
  is = λ ends t.
      let inv = c.loop-p.invariant ends t in
      let says = t _ _ (search rules) c.ends.ensures in
      elim c.then-not-may_follow.branch [
        | then-not-may_follow-via-then-not-may_follow w ↦ search (turn-order, inv, says, c.if-ends.false, c.in-Some.ensures, w.if-not-may_follow.ensures)
        | then-not-may_follow-via-else-not-may_follow+then-not-payload_formed w ↦
            search (turn-payload, inv, says, c.if-ends.false, c.in-Some.ensures, w.if-not-may_follow.ensures, w.if-not-payload_formed.ensures)
      ];
}

pub loop-p-preserved : goal.loop-p-preserved
loop-p-preserved g c ends t =
    let inv = c.loop-p.invariant ends t in
    let says = t _ _ (search rules) c.ends.ensures in
    search (turn-next, inv, says, c.if-ends.false, c.in-Some.ensures, c.if-not-may_follow.ensures, c.if-not-payload_formed.ensures)

pub returns : goal.returns
returns g c = record {
  is = λ ends t.
      let inv = c.loop-p.invariant ends t in
      elim c.loop-p-test.branch [
        | else-loop-p-test w ↦ turn_end ends _ _ _ _ _ inv w.loop-p-test.false
        | then-loop-p-test+in-Some+then-ends w ↦ let says = t _ _ (search rules) w.ends.ensures in search (turn-ends, inv, says, w.if-ends.true, w.in-Some.ensures)
      ];
}
