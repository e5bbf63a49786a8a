-- `joined::component_at` meets its contract. Without a slash; after it; and another byte in its place.
use Rattle.files.proofs.JoinedLaws.{component-plain, component_differs, component-after}
use Rattle.files.proofs.joined.component_at.Goals as goal

pub returns-else-path-at-eq47 : goal.returns-else-path-at-eq47
returns-else-path-at-eq47 c = search component_differs

pub returns-then-slashes-eq0 : goal.returns-then-slashes-eq0
returns-then-slashes-eq0 c = search component-plain

pub returns-then-path-at-eq47 : goal.returns-then-path-at-eq47
returns-then-path-at-eq47 c = search component-after
