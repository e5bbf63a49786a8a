-- Contract. What the test of a joined path says of one of its components.
use Rattle.std.specs.Prelude.{ℕ, ◌+◌, Bool, List, ◌++◌, length, replicate}
use Rattle.tlv.specs.Lists.{same}
use Rattle.buffers.specs.Table.{chunk}
use Rattle.line_program.specs.Standard.{slash}

-- a number of slashes and a component stand at a place
unfoldable pub component_at : List ℕ → ℕ → ℕ → List ℕ → Bool
component_at w at slashes s = same (chunk w at (slashes + length s)) (replicate slashes slash ++ s)
