-- `earlier::first_covering` meets its contract: `find` asks the sequences from the first on.
use Rattle.std.proofs.Common.{rules, tests}
use mathlib.Core.Bool.{true, false}
use Rattle.std.proofs.lemmas.Iterator.{first_from_Range}
use Rattle.rows.specs.Stored.{sequence_of}
use Rattle.rows.proofs.SequenceLaws.{covers_at, Says, first-at}
use Rattle.rows.proofs.earlier.first_covering.Goals as goal

pub returns : goal.returns
returns c =
    let test = covers_at (sequence_of c.args.asked) c.args.address in
    let w = c.args.work.now in
    let q = c.args.sequences in
    first-at test w q.base q.count c.find.result (first_from_Range _ _ _ _ (Says test w q.base q.count true) (Says test w q.base q.count false) c.find.ensures.ran
    (λ x q k. search (rules, tests)) (λ x q k. (search rules, search (rules, tests))))
