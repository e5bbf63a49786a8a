-- `joined::is_joined` meets its contract. Another length; then the three stretches, each of which may differ.
use Rattle.files.proofs.JoinedLaws.{joined_length, joined-first, joined-second, joined-third}
use Rattle.files.proofs.joined.is_joined.Goals as goal

pub returns-else-component_at : goal.returns-else-component_at
returns-else-component_at c = search joined-second

pub returns-then-component_at : goal.returns-then-component_at
returns-then-component_at c = search joined-third

pub returns-then-path-compilation : goal.returns-then-path-compilation
returns-then-path-compilation c = search joined_length

pub returns-then-not-bytes_at : goal.returns-then-not-bytes_at
returns-then-not-bytes_at c = search joined-first
