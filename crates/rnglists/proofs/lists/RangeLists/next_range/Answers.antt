-- `lists::RangeLists::next_range` meets its contract. The loop's invariant: what is left of the list gives what was asked for.
use Rattle.tlv.proofs.AnswerLaws.{handed}
use Rattle.rnglists.proofs.lists.MeaningLaws.{some_width}
use Rattle.rnglists.proofs.lists.NextLaws.{next-fault, meant-fault, meant-end, meant-base, meant-range}
use Rattle.rnglists.proofs.lists.RangeLists.next_range.Goals as goal

pub returns-in_err-read : goal.returns-in_err-read
returns-in_err-read c = rw (handed _ _ c.from_residual.ensures.1) (next-fault c.loop-read.invariant c.in_err-read.ensures)

pub returns-in_err-meaning_of : goal.returns-in_err-meaning_of
returns-in_err-meaning_of c = rw (handed _ _ c.from_residual-in_err-meaning_of.ensures.1)
    (meant-fault c.loop-read.invariant c.in_ok-read.ensures c.in_err-meaning_of.ensures)

pub returns-in-End : goal.returns-in-End
returns-in-End c = meant-end c.loop-read.invariant c.in_ok-read.ensures (rw c.in-End.is at c.in_ok-meaning_of.ensures)

pub loop-read-preserved : goal.loop-read-preserved
loop-read-preserved c = meant-base c.loop-read.invariant c.in_ok-read.ensures (rw c.in-Base.is at c.in_ok-meaning_of.ensures)

pub returns-in-Range : goal.returns-in-Range
returns-in-Range c = meant-range c.loop-read.invariant c.in_ok-read.ensures (some_width c.args.size) (rw c.in-Range.is at c.in_ok-meaning_of.ensures)
