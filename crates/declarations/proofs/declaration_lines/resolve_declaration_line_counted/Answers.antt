-- `declaration_lines::resolve_declaration_line_counted` meets its contract.
use mathlib.Core.Path.{sym, ◌∙◌}
use Rattle.declarations.specs.Declarations.{indices_at}
use Rattle.declarations.proofs.ResolveLaws.{from-as, restart-as, line_plain, line_read}
use Rattle.declarations.proofs.declaration_lines.resolve_declaration_line_counted.Goals as goal

pub returns-clause-declares : goal.returns-clause-declares
unfolding indices_at
returns-clause-declares c = rw c.answered.ensures
    (line_plain _ _ (restart-as _ (c.start.ensures.none_followed ∙ sym c.requires.none_followed) (from-as _ c.start.ensures.start_read (rw c.start_at.ensures at c.resolve-found.ensures))))

pub returns-clause-line_read : goal.returns-clause-line_read
unfolding indices_at
returns-clause-line_read c =
    line_read _ _ (restart-as _ (c.start.ensures.none_followed ∙ sym c.requires.none_followed) (from-as _ c.start.ensures.start_read (rw c.start_at.ensures at c.resolve-found.ensures)))
    c.requires.declaring_in c.requires.none_followed c.requires.entry_known
