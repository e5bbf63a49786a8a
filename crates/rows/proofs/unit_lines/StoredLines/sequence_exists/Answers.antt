-- `StoredLines::sequence_exists` meets its contract: `any` asks each sequence.
use Rattle.std.proofs.Common.{◌∙◌, ap, refl, arith, rules, tests}
use mathlib.Core.Bool.{not, true, false}
use Rattle.std.proofs.lemmas.Iterator.{cases_from_any, YieldsList-from_range}
use Rattle.rows.specs.Stored.{sequence_of}
use Rattle.rows.proofs.SequenceLaws.{is_sequence, Says, exists-any, exists-is}
use Rattle.rows.proofs.unit_lines.StoredLines.sequence_exists.Goals as goal

pub returns : goal.returns
returns c =
    let s = sequence_of c.args.requested in
    let w = c.args.work.now in
    let q = c.args.self.sequences in
    let A = cases_from_any _ _ _ (Says (is_sequence s) w q.base q.count true) (Says (is_sequence s) w q.base q.count false) c.any.ensures.ran
    (YieldsList-from_range 0 q.count q.count refl (omega arith)) (λ x q k. search (rules, tests)) (λ x q k. (search rules, search (rules, tests))) in
    exists-is w c.args.self c.args.requested (c.is_none.ensures ∙ ap not c.if-is_none.false) (exists-any (is_sequence s) w q.base q.count c.any.result A)
