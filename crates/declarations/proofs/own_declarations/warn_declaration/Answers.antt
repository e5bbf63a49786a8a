-- `own_declarations::warn_declaration` meets its contract.
use Rattle.tlv.proofs.AnswerLaws.{handed}
use Rattle.declarations.proofs.OwnDeclarationLaws.{warns-refused, warns-laid}
use Rattle.declarations.proofs.own_declarations.warn_declaration.Goals as goal

pub returns-in_err-st-clause-warns : goal.returns-in_err-st-clause-warns
returns-in_err-st-clause-warns c = rw (handed _ _ c.from_residual.ensures.1) (warns-refused (rw c.number.ensures at c.in_err-st.ensures))

pub returns-clause-warns : goal.returns-clause-warns
returns-clause-warns c = warns-laid (rw c.number.ensures at c.in_ok-st.ensures)
