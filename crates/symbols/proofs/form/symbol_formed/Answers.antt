-- `form::symbol_formed` meets its contract.
use Rattle.symbols.proofs.form.CheckLaws.{formed-not, formed-is}
use Rattle.symbols.proofs.form.symbol_formed.Goals as goal

pub returns-then-tag-ne-SYMBOL_TAG : goal.returns-then-tag-ne-SYMBOL_TAG
returns-then-tag-ne-SYMBOL_TAG c = formed-not _ _ c.then-tag-ne-SYMBOL_TAG.either

pub returns : goal.returns
returns c = search formed-is
