-- `operand::skip_operand` meets its contract. What is left of the operand is passed over as the whole is.
use mathlib.Core.Path.{sym, ◌∙◌}
use Rattle.line_program.proofs.SkipLaws.{passing-cut, passing-overflow, passing-tenth, passing-overlong, passing-end, passing-more}
use Rattle.line_program.proofs.operand.skip_operand.Goals as goal

pub returns-then-not-fits : goal.returns-then-not-fits
returns-then-not-fits g c = let f = sym c.fits.ensures ∙ c.if-not-fits.true in search passing-overflow

pub returns-then-byte-lt128 : goal.returns-then-byte-lt128
returns-then-byte-lt128 g c = let f = sym c.fits.ensures ∙ c.if-not-fits.false in search passing-tenth

pub returns-then-left-eq0 : goal.returns-then-left-eq0
returns-then-left-eq0 g c = let f = sym c.fits.ensures ∙ c.if-not-fits.false in search passing-overlong

pub loop-p-preserved : goal.loop-p-preserved
loop-p-preserved g c = search passing-more

pub returns-then-byte-lt128-2 : goal.returns-then-byte-lt128-2
returns-then-byte-lt128-2 g c = search passing-end

pub returns-then-program-p : goal.returns-then-program-p
returns-then-program-p g c = search passing-cut
