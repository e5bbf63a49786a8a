-- `spans::Span::of` meets its contract. What is cut out from the start to the end is as long as the span.
use Rattle.files.proofs.DirectoryLaws.{cut-span}
use Rattle.files.proofs.spans.Span.of.Goals as goal

pub returns : goal.returns
returns c = cut-span c.args.s.now c.args.self.start c.args.self.len
