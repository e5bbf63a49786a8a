-- `convert::Conversion::store_lines` meets its contract: the sequences stand behind the lines, which are sorted and freed of equal neighbours.
use mathlib.Core.Path.{refl}
use native.Mathlib.Omega.{arith}
use Rattle.collect.proofs.finish.StoreLaws.{sequences-counted, stored_lines}
use Rattle.collect.proofs.convert.Conversion.store_lines.Goals as goal

pub overflow_mul-buffer : goal.overflow_mul-buffer
overflow_mul-buffer c = let k = sequences-counted c.args.self.lines c.args.count c.collect_sequences-sequences.ensures.sequences_in in
    omega arith

pub overflow_add-buffer : goal.overflow_add-buffer
overflow_add-buffer c = let k = sequences-counted c.args.self.lines c.args.count c.collect_sequences-sequences.ensures.sequences_in in
    omega arith

pub sort_rows-requires-clause-buffer_within : goal.sort_rows-requires-clause-buffer_within
sort_rows-requires-clause-buffer_within c = let k = sequences-counted c.args.self.lines c.args.count c.collect_sequences-sequences.ensures.sequences_in in
    omega arith

pub returns : goal.returns
returns c = stored_lines c.args.self.lines c.args.count c.collect_sequences-sequences.ensures.sequences_in
    (rw (c.new-converted.ensures.based, c.new-converted.ensures.counted) at c.sort_rows.ensures)
    (rw (c.new-converted.ensures.based, c.new-converted.ensures.counted) at c.dedup_rows-left.ensures)
    c.requires.lines_fit (omega arith) c.new.ensures.based c.new.ensures.counted c.collect_sequences-sequences.ensures.based refl
