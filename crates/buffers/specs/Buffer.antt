-- Contract. Writing into an output buffer, which document 01 calls a tray: bytes are laid over it from a place on. What falls past its end is lost, and the
-- place goes on, up to the largest place.
use Rattle.std.specs.Prelude.{◌≡◌, List, [], ◌∷◌, ℕ, ◌+◌, ◌<◌, min, length, set}

-- the largest place
abbrev pub top : ℕ
top = 18446744073709551615

-- the place n further on, or the largest
abbrev pub moved : ℕ → ℕ → ℕ
moved at n = min (at + n) top

-- the tray with bs laid over it from place `at`: `set` past the end leaves a list as it is
abbrev pub overlay : ℕ → List ℕ → List ℕ → List ℕ
overlay at [] t = t
overlay at (b ∷ bs) t = overlay (at + 1) bs (set t at b)

-- what a put does: from tray t and place `at` to tray t' and place r, by laying bs. Every slice is `small`.
pub record Put (at : ℕ) (bs t t' : List ℕ) (r : ℕ) : Type 0 where
  pub buffer : t' ≡ overlay at bs t
  pub place : r ≡ moved at (length bs)
  pub small : length t < top
