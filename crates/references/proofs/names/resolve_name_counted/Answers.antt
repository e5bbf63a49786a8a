-- `names::resolve_name_counted` meets its contract.
use Rattle.references.proofs.NameLaws.{resolved_name, name-read, name-within}
use Rattle.references.proofs.names.resolve_name_counted.Goals as goal

pub returns-clause-resolved : goal.returns-clause-resolved
returns-clause-resolved c = resolved_name _ c.start_at.ensures (rw (c.start-trail.ensures.none_followed, c.start-trail.ensures.start_read) at c.resolve_name_inner-answer.ensures)

pub returns-clause-reads_after : goal.returns-clause-reads_after
returns-clause-reads_after c = name-read _ c.start_at.ensures (rw (c.start-trail.ensures.none_followed, c.start-trail.ensures.start_read) at c.resolve_name_inner-answer.ensures)

pub returns-clause-reads_within : goal.returns-clause-reads_within
returns-clause-reads_within c = name-within _ c.start_at.ensures (rw (c.start-trail.ensures.none_followed, c.start-trail.ensures.start_read) at c.resolve_name_inner-answer.ensures) c.requires.search_in c.requires.entry_known
