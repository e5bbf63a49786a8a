-- `attributes::own_name` meets its contract.
use mathlib.Core.Path.{refl}
use Rattle.tlv.proofs.AnswerLaws.{numbered, handed}
use Rattle.references.proofs.ReferenceLaws.{own-refused, own-found, own-later, own-last}
use Rattle.references.proofs.attributes.own_name.Goals as goal

pub returns-then-not-is_empty : goal.returns-then-not-is_empty
returns-then-not-is_empty c = record { is = own-found c.in_ok-linkage.ensures _ refl c.is_empty.ensures c.if-not-is_empty.true }

pub returns-in_err-linkage : goal.returns-in_err-linkage
returns-in_err-linkage c = rw (handed _ _ c.from_residual.ensures.1) (record { is = own-refused c.in_err-linkage.ensures _ (numbered _) })

pub returns-then-not-is_empty-2 : goal.returns-then-not-is_empty-2
returns-then-not-is_empty-2 c = record { is = own-later c.in_ok-linkage.ensures _ _ _ refl c.is_empty.ensures c.if-not-is_empty.false (own-found c.in_ok-mips.ensures _ refl c.is_empty-2.ensures c.if-not-is_empty-2.true) }

pub returns-in_err-mips : goal.returns-in_err-mips
returns-in_err-mips c = rw (handed _ _ c.from_residual-in_err-mips.ensures.1) (record { is = own-later c.in_ok-linkage.ensures _ _ _ refl c.is_empty.ensures c.if-not-is_empty.false (own-refused c.in_err-mips.ensures _ (numbered _)) })

pub returns : goal.returns
returns c = record { is = own-later c.in_ok-linkage.ensures _ _ _ refl c.is_empty.ensures c.if-not-is_empty.false (own-later c.in_ok-mips.ensures _ _ _ refl c.is_empty-2.ensures c.if-not-is_empty-2.false (own-last c.name_at-3.ensures)) }
