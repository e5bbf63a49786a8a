-- `form::own_formed` meets its contract: the next function ends the walk.
use borrow.Author.Rules.{rules}
use mathlib.Core.Path.{◌∙◌, ap}
use lib.Dec.{eqb}
use lib.ListN.{drop}
use Rattle.tlv.specs.Fields.{FieldList, fields}
use Rattle.buffers.specs.Reader.{records_form}
use Rattle.lookup.proofs.CheckLaws.{until-function}
use Rattle.lookup.proofs.form.own_formed.Goals as goal

pub returns : goal.returns
returns c =
    c.fields_formed.ensures.is (λ t. eqb t 0x41) (λ t b fits post. search rules)
    ∙ ap (λ (fs : FieldList). records_form 0x41 0 fs) (until-function (fields (drop c.args.own c.args.s.now)))
