-- The ranges that the entry at hand can give, of its fields 19 or of its list, have room in the stack of ranges.
use mathlib.Core.Logic.{inl, inr}
use mathlib.Core.List.{List}
use Prim.Native.Nat.{ℕ, suc, ◌+◌, ◌*◌, ◌≤◌, ◌<◌}
use native.Mathlib.Nat.{mul-le-mul_left}
use native.Mathlib.Omega.{arith}
use lib.ListN.{length}
use Rattle.tlv.specs.Bytes.{Bytes}
use Rattle.rnglists.proofs.RoomLaws.{list-room, list_left}
use Rattle.references.specs.Tables.{EntryKnown}
use Rattle.ranges.specs.RangeTable.{range_fields}
use Rattle.dies.specs.declared.details.Details.{Details}
use Rattle.dies.specs.declared.walk.Walk.{Walk}
use Rattle.dies.specs.Details.{DetailsIn, range_count, list_count, list_room, range_room, third}
use Rattle.dies.specs.DetailState.{Later, ranges_later, entries_left, Fits, OwnRanges}
use Rattle.dies.proofs.FrameLaws.{lean-used}
use Rattle.dies.proofs.NameLengthLaws.{ranges-few}
use Rattle.dies.proofs.SiteStepLaws.{later-here, lists-here}

pub own-few : (main : List ℕ) (d : Details) (p k : ℕ) → OwnRanges main d p k → k ≤ length (range_fields main (p + 15)) + third d.context.lists
own-few main d p k (inl h) = omega arith
own-few main d p k (inr h) = omega (arith, h.0)

-- fewer
pub own-less : (main : List ℕ) (d : Details) (p k m : ℕ) → k ≤ m → OwnRanges main d p m → OwnRanges main d p k
own-less main d p k m l (inl h) = inl (omega arith)
own-less main d p k m l (inr h) = inr (omega (arith, h.0), h.1)

module _ {main supplementary w : List ℕ} {d : Details} {p : ℕ} {s : Walk} (D : DetailsIn main supplementary w d) (K : EntryKnown main d.context.unit p)
    (F : Fits main supplementary w d (ranges_later main p) (entries_left main p) s) where
  -- by frames
  by_frames : s.frames.used + (ranges_later main p).ranges ≤ 1 + range_count main + third d.context.lists * s.frames.count
  by_frames = omega (arith, F.level, lean-used F.floor (third d.context.lists) s.frames.frames s.frames.count s.frames.used F.lean)

  -- the stack with them, and the fields 19 that are still to come
  pub own-used : (k : ℕ) → OwnRanges main d p k → s.frames.used + k + (ranges_later main (p + 15)).ranges ≤ range_room main d.context
  unfolding list_room
  own-used k (inl h) = omega (arith, F.used, later-here D K)
  own-used k (inr h) =
      let room = list-room (third d.context.lists) (range_count main) (list_count main d.context) s.frames.used (ranges_later main p).ranges (ranges_later main p).lists s.frames.count F.fields by_frames (omega (arith, lists-here D K, h.1)) F.ready.few in
      omega (arith, room, later-here D K, h.0)

  -- and the lists that are
  pub own-fields : (k : ℕ) → OwnRanges main d p k
      → s.frames.used + k + (ranges_later main (p + 15)).ranges + third d.context.lists * (ranges_later main (p + 15)).lists ≤ 1 + range_count main + third d.context.lists * list_count main d.context
  own-fields k (inl h) =
      let m : third d.context.lists * (ranges_later main (p + 15)).lists ≤ third d.context.lists * (ranges_later main p).lists = mul-le-mul_left (third d.context.lists) (omega (arith, lists-here D K)) in
      omega (arith, F.fields, later-here D K, m)
  own-fields k (inr h) =
      let m : third d.context.lists * suc (ranges_later main (p + 15)).lists ≤ third d.context.lists * (ranges_later main p).lists = mul-le-mul_left (third d.context.lists) (omega (arith, lists-here D K, h.1)) in
      let room = list_left (third d.context.lists) (range_count main) (list_count main d.context) s.frames.used (ranges_later main p).ranges (ranges_later main (p + 15)).lists k (omega (arith, F.fields, m)) h.0 in
      omega (arith, room, later-here D K)

-- a frame's place has four bytes
pub used-small : {main supplementary w : List ℕ} {d : Details} {a : Later} {b : ℕ} {s : Walk} → DetailsIn main supplementary w d → Fits main supplementary w d a b s → Bytes main
    → s.frames.used < 4294967296
used-small {main} {d = d} {s = s} D F bytes =
    let lean = lean-used F.floor (third d.context.lists) s.frames.frames s.frames.count s.frames.used F.lean in
    let m : third d.context.lists * s.frames.count ≤ third d.context.lists * 256 = mul-le-mul_left (third d.context.lists) F.ready.few in
    omega (arith, lean, m, F.level, D.third, ranges-few D bytes)

-- an entry gives no more ranges than 32 bits count
pub own-small : {main supplementary w : List ℕ} {d : Details} {p : ℕ} {s : Walk} (k : ℕ) → DetailsIn main supplementary w d → EntryKnown main d.context.unit p
    → Fits main supplementary w d (ranges_later main p) (entries_left main p) s → OwnRanges main d p k → Bytes main → k ≤ 4294967296
own-small {main} {d = d} {p} k D K F O bytes = omega (arith, own-few main d p k O, later-here D K, F.level, D.third, ranges-few D bytes)
