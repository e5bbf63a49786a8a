-- Contract. The room that range lists (document 02, E9) need where the ranges of open nodes stand.
use Rattle.std.specs.Prelude.{ℕ, min}

-- how many lists can stand there at once: one for each of the 256 nodes that can be open, and the one that is read
abbrev pub open_most : ℕ
open_most = 257

-- .. of a unit with so many
abbrev pub open_lists : ℕ → ℕ
open_lists lists = min lists open_most

-- the fewest bytes of a list that give a range
abbrev pub range_least : ℕ
range_least = 3
