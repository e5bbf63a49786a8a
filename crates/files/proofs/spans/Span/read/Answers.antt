-- `spans::Span::read` meets its contract.
use Rattle.files.proofs.StoreLaws.{got_span}
use Rattle.files.proofs.spans.Span.read.Goals as goal

pub returns : goal.returns
returns c = search got_span
