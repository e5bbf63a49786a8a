-- Contract. The open inline nodes as frames by value and a stack of ranges in the work slice, and what the functions on them promise.
use Rattle.std.specs.Prelude.{◌≡◌, List, [], ◌∷◌, ℕ, zero, suc, ◌+◌, ◌-◌, ◌*◌, ◌≤◌, length, get_or, set}
use Rattle.tlv.specs.declared.model.AddressRange.{AddressRange}
use Rattle.imports.specs.Tree.{InlineFrame, finish_inlines, parent_ranges}
use Rattle.ranges.specs.RangeTable.{ranges_at, range_record}
use Rattle.dies.specs.declared.frames.Frame.{Frame}
use Rattle.dies.specs.declared.frames.Open.{Open}

abbrev pub slot : List Frame → ℕ → Frame
slot fs t = get_or fs t (record { depth = 0; ranges = 0 })

-- the t lowest frames, the innermost first: a frame's ranges are those of the stack at base from its place up to `used`
unfoldable pub open_of : List Frame → ℕ → ℕ → List ℕ → ℕ → List InlineFrame
open_of fs zero used w base = []
open_of fs (suc t) used w base =
    record { die_depth = (slot fs t).depth; ranges = ranges_at w (base + (slot fs t).ranges * range_record) (used - (slot fs t).ranges) }
    ∷ open_of fs t (slot fs t).ranges w base

-- the frames' places ascend, and the lowest is 1: the function's range is range 0
unfoldable pub Stacked : List Frame → ℕ → ℕ → Type 0
Stacked fs zero used = used ≡ 1
Stacked fs (suc t) used = ((slot fs t).ranges ≤ used) × Stacked fs t (slot fs t).ranges

-- the room of the stack, frame by frame: with n open frames it has at most c ranges and t more for each frame, and so it was when each of them was opened.
-- c counts the function's range and the fields 19 of the entries passed, t is what one range list can give (document 02, E9)
unfoldable pub Lean : ℕ → ℕ → List Frame → ℕ → ℕ → Type 0
Lean c t fs zero used = used ≤ c
Lean c t fs (suc n) used = (used ≤ c + t * suc n) × Lean c t fs n (slot fs n).ranges

-- the open nodes, with their ranges in w from base on
unfoldable pub open_in : List ℕ → ℕ → Open → List InlineFrame
open_in w base st = open_of st.frames st.count st.used w base

pub record Ready (st : Open) : Type 0 where
  pub few : st.count ≤ 256
  pub full : length st.frames ≡ 256
  pub stacked : Stacked st.frames st.count st.used

-- no frame
pub record Empty (st : Open) : Type 0 where
  pub ready : Ready st
  pub none : st.count ≡ 0
  pub used : st.used ≡ 1

-- the frames at depth d or deeper are gone
pub record Popped (st st' : Open) (d : ℕ) : Type 0 where
  pub ready : Ready st'
  pub frames : (w : List ℕ) (base : ℕ) → open_in w base st' ≡ finish_inlines d (open_in w base st)
  pub fewer : st'.count ≤ st.count
  pub used : st'.used ≤ st.used
  pub lean : (c t : ℕ) → Lean c t st.frames st.count st.used → Lean c t st'.frames st'.count st'.used

-- the innermost node's ranges begin at range `from` of the stack; with none open these are the function's own, f, which is range 0
pub record Top (st : Open) (from : ℕ) : Type 0 where
  pub within : from ≤ st.used
  pub ranges : (f : AddressRange) (w : List ℕ) (base : ℕ) → ranges_at w base 1 ≡ f ∷ []
      → parent_ranges f (open_in w base st) ≡ ranges_at w (base + from * 16) (st.used - from)

-- one frame more, of depth d, whose ranges are the k from `used` on
abbrev pub grown : Open → ℕ → ℕ → Open
grown st d k = record { frames = set st.frames st.count (record { depth = d; ranges = st.used }); count = st.count + 1; used = st.used + k }
