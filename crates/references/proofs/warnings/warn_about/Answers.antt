-- `warnings::warn_about` meets its contract.
use native.Mathlib.Omega.{arith}
use Rattle.tlv.proofs.AnswerLaws.{handed}
use Rattle.references.proofs.TargetLaws.{known-unit}
use Rattle.references.proofs.WarningLaws.{warned-placed, warned_inside, about-refused, about-put}
use Rattle.references.proofs.warnings.warn_about.Goals as goal

pub absolute_entry_offset-requires-clause-placed : goal.absolute_entry_offset-requires-clause-placed
absolute_entry_offset-requires-clause-placed c = warned-placed c.requires.accepted c.requires.entry_known

pub absolute_entry_offset-requires-clause-listed : goal.absolute_entry_offset-requires-clause-listed
absolute_entry_offset-requires-clause-listed c = known-unit c.requires.accepted.number c.requires.accepted.is c.requires.entry_known

pub returns-in_err-target : goal.returns-in_err-target
returns-in_err-target c = rw (handed _ _ c.from_residual.ensures.1) (about-refused c.requires.accepted c.requires.entry_known c.read-offset.ensures _ c.in_err-target.ensures)

pub returns : goal.returns
returns c = about-put c.requires.accepted c.requires.entry_known c.read-offset.ensures c.in_ok-target.ensures c.put_warning.ensures

pub overflow_add-entry : goal.overflow_add-entry
overflow_add-entry c = omega (arith, warned_inside c.requires.accepted c.requires.entry_known)

pub read-offset-requires : goal.read-offset-requires
read-offset-requires c = omega (arith, warned_inside c.requires.accepted c.requires.entry_known)
