-- `keys::is_scanned` meets its contract.
use Rattle.std.proofs.Common.{refl, arith, rules, tests, ◌∙◌, ◌+◌, ◌*◌, ◌-◌}
use Rattle.std.proofs.lemmas.Iterator.{YieldsList-from_range}
use Rattle.std.proofs.lemmas.Iterator.Search.{any_from_yields_List}
use Rattle.references.specs.Search.{same_key}
use Rattle.references.specs.Keys.{key_in, key_of}
use Rattle.buffers.specs.Table.{chunk}
use Rattle.references.proofs.VisitedLaws.{scanned_is}
use Rattle.references.proofs.keys.is_scanned.Goals as goal

pub returns : goal.returns
returns c =
    any_from_yields_List (λ i. same_key (key_in c.args.key.source c.args.key.offset) (key_of (chunk c.args.work.now (c.args.keys.base + (c.args.keys.count - 1 - i) * 13) 9))) _ _ _ c.any.ensures.ran
    (YieldsList-from_range 0 c.args.keys.count c.args.keys.count refl (omega arith)) (λ x b q k. search (rules, tests))
    ∙ scanned_is c.args.work.now c.args.keys.base (key_in c.args.key.source c.args.key.offset) c.args.keys.count
