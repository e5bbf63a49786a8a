-- `walks::collect_sequences` meets its contract: the records so far, and the sequences of the rows that are left, are those of all rows.
use Rattle.collect.proofs.walks.CollectingLaws.{collecting-start, collecting-done, collecting-room, collecting-put}
use Rattle.collect.proofs.walks.CollectingLaws.{collecting-empty, collecting-more}
use Rattle.collect.proofs.walks.collect_sequences.Goals.{then-not-is_empty, else-not-is_empty}
use Rattle.collect.proofs.walks.collect_sequences.Goals as goal

pub loop-found-init : goal.loop-found-init
loop-found-init c = collecting-start c.requires.rows_ready c.requires.offsets_below c.requires.sequences_fit

pub put_sequence_record-requires-clause-record_fits : goal.put_sequence_record-requires-clause-record_fits
put_sequence_record-requires-clause-record_fits c = collecting-room c.loop-found.invariant c.in-Some.ensures c.if-found.true c.unwrap_or.ensures c.is_empty.ensures c.if-not-is_empty.true

pub loop-found-preserved-then-found : goal.loop-found-preserved-then-found
loop-found-preserved-then-found c = elim c.if-not-is_empty.branch [
  | then-not-is_empty w ↦ rw (w.work-is, w.count-is) (collecting-put c.loop-found.invariant c.in-Some.ensures c.if-found.true c.unwrap_or.ensures
      c.is_empty.ensures w.if-not-is_empty.true w.put_sequence_record.ensures w.put_sequence_record.auto.work)
  | else-not-is_empty w ↦ rw (w.work-is, w.count-is) (collecting-empty c.loop-found.invariant c.in-Some.ensures c.if-found.true c.unwrap_or.ensures
      c.is_empty.ensures w.if-not-is_empty.false)
]

pub loop-found-preserved : goal.loop-found-preserved
loop-found-preserved c = rw c.or-start.ensures (collecting-more c.loop-found.invariant c.in-Some.ensures c.if-found.false)

pub returns-clause-sequences_in : goal.returns-clause-sequences_in
returns-clause-sequences_in c = rw c.new.ensures.counted (collecting-done c.loop-found.invariant c.in_default.ensures)
