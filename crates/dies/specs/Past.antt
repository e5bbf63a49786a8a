-- Contract. A records length past 2^64 - 1 (document 02, E9), told beside the place, which stays at the largest.
use Rattle.std.specs.Prelude.{Bool, cond, ℕ, ◌+◌, ◌*◌, ltb, eqb}
use Rattle.buffers.specs.Buffer.{top}

-- laying n bytes from a place on passes the largest place
abbrev pub is_past : ℕ → ℕ → Bool
is_past at n = ltb top (at + n)

-- the bytes of a node of a name of so many bytes with k ranges: 13, the name, 19 for each range; behind no node those of the root before it
unfoldable pub node_size : ℕ → ℕ → ℕ → ℕ → ℕ
node_size nodes name inlined k = cond (eqb nodes 0) (32 + name + (13 + inlined + 19 * k)) (13 + inlined + 19 * k)
