-- Contract. A search by halves among numbers.
use Rattle.std.specs.Prelude.{ℕ, ◌-◌, ◌≤◌, ◌<◌, Bool, true, false}

-- r of the n numbers below n were passed: the test of a closure says yes of the last of them, and no of the one behind. `post` is the closure's, of a number
-- and an answer. So where no number with a yes stands behind one with a no, r is how many have a yes.
pub record TurnsAt (post : ℕ → Bool → Type 0) (n r : ℕ) : Type 0 where
  pub within : r ≤ n
  pub passed : 0 < r → post (r - 1) true
  pub next : r < n → post r false
