-- `ImportContext::import_named` meets its contract.
use Rattle.ranges.proofs.InlinedLaws.{list-within, list-word}
use Rattle.subprograms.proofs.EntryRangeLaws.{own-listless, named-unlisted, named-listed}
use Rattle.subprograms.proofs.model.ImportContext.import_named.Goals as goal

pub list_field-requires-clause-listless : goal.list_field-requires-clause-listless
list_field-requires-clause-listless c = own-listless c.requires.context_in c.requires.subprogram_in.entry c.requires.placed.1

pub read-list-requires-clause-in_bounds : goal.read-list-requires-clause-in_bounds
read-list-requires-clause-in_bounds c = list-within c.in-Some.ensures c.requires.placed.0

pub read-list-requires-clause-size_known : goal.read-list-requires-clause-size_known
read-list-requires-clause-size_known c = list-word c.in-Some.ensures c.requires.placed.0

pub returns-in-Some-clause-is : goal.returns-in-Some-clause-is
returns-in-Some-clause-is c = named-listed c.requires.context_in c.requires.subprogram_in.entry c.in-Some.ensures c.requires.placed.0 _ _ _ c.read-list.ensures c.import_list.ensures.is

pub returns-in-None-clause-is : goal.returns-in-None-clause-is
returns-in-None-clause-is c = named-unlisted c.requires.context_in c.requires.subprogram_in.entry c.in-None.ensures _ _ _ c.import_fields.ensures.is
