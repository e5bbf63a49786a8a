-- `reference_names::resolve_reference_name_counted` meets its contract.
use Rattle.references.proofs.NameLaws.{resolved-reference, reference-read, reference-within}
use Rattle.references.proofs.reference_names.resolve_reference_name_counted.Goals as goal

pub returns-clause-resolved : goal.returns-clause-resolved
returns-clause-resolved c = resolved-reference _ c.start_at.ensures _ (rw (c.start-trail.ensures.none_followed, c.start-trail.ensures.start_read) at c.referred_name-answer.ensures)

pub returns-clause-reads_after : goal.returns-clause-reads_after
returns-clause-reads_after c = reference-read _ c.start_at.ensures _ (rw (c.start-trail.ensures.none_followed, c.start-trail.ensures.start_read) at c.referred_name-answer.ensures)

pub returns-clause-reads_within : goal.returns-clause-reads_within
returns-clause-reads_within c = reference-within _ c.start_at.ensures _ (rw (c.start-trail.ensures.none_followed, c.start-trail.ensures.start_read) at c.referred_name-answer.ensures) c.requires.search_in c.requires.entry_known
