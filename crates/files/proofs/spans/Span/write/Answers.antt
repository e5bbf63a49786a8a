-- `spans::Span::write` meets its contract. A span is its two numbers, one after the other.
use Rattle.files.proofs.DirectoryLaws.{put-span}
use Rattle.files.proofs.spans.Span.write.Goals as goal

pub returns : goal.returns
returns c = search put-span
