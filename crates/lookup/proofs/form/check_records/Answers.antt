-- `form::check_records` meets its contract: nothing ends the walk before the tray does.
use borrow.Author.Rules.{rules}
use mathlib.Core.Path.{◌∙◌, ap}
use mathlib.Core.Bool.{false}
use Rattle.tlv.specs.Fields.{FieldList, fields}
use Rattle.buffers.specs.Reader.{records_form}
use Rattle.lookup.proofs.CheckLaws.{until-none}
use Rattle.lookup.proofs.form.check_records.Goals as goal

pub returns : goal.returns
returns c = c.fields_formed.ensures.is (λ t. false) (λ t b fits post. search rules) ∙ ap (λ (fs : FieldList). records_form 0 0 fs) (until-none (fields c.args.s.now))
