-- Bytes set to 0: one by one, what they then are, and tables that hold only 0.
use mathlib.Core.Path.{◌≡◌, refl, sym, ap, ◌∙◌}
use mathlib.Core.List.{List, ◌∷◌, append_assoc}
use Prim.Native.Nat.{ℕ, zero, suc, ◌+◌, ◌-◌, ◌≤◌}
use native.Mathlib.Omega.{arith}
use lib.ListN.{length, take, drop, replicate, length-drop, length-replicate}
use borrow.Rule.Slice.PartMut.{put_mid}
use lib.Seq.{length-take-le}
use Rattle.tlv.specs.Bytes.{le, le_at}
use Rattle.buffers.specs.Buffer.{overlay}
use Rattle.buffers.specs.Table.{chunk, zeroed, Zeroed}
use Rattle.buffers.proofs.ChunkLaws.{chunk_part, chunk-over, overlay-eq, le_at-is}
use Rattle.buffers.proofs.BufferLaws.{mid-overlay}
use Rattle.buffers.proofs.TableLaws.{kept-over}

-- zeros are bytes laid over
pub zeroed-over : (w : List ℕ) (from to : ℕ) → from ≤ to → to ≤ length w → zeroed w from to ≡ overlay from (replicate (to - from) 0) w
unfolding zeroed
zeroed-over w from to h l =
    let zeros : List ℕ = replicate (to - from) 0 in
    let e : from + length zeros ≡ to = rw length-replicate (omega arith) in
    sym (rw (e, ← append_assoc) at (overlay-eq from zeros w (omega arith)))

-- zeros that take the place of as many bytes
pub zeros_laid : {w ys : List ℕ} {from to : ℕ} → ys ≡ replicate (length (take (to - from) (drop from w))) 0 → from ≤ to → to ≤ length w
    → Zeroed w (put_mid from (to - from) w ys) from to
zeros_laid {w} {ys} {from} {to} e h l = record {
  bytes = over ∙ sym (zeroed-over w from to h l);
  same = rw over (chunk-over from zeros w (to - from) (length-replicate (to - from) 0) (omega arith));
  rest = rw over (kept-over from zeros w (to - from) (length-replicate (to - from) 0));
}
  where
    zeros : List ℕ
    zeros = replicate (to - from) 0

    as-many : length (take (to - from) (drop from w)) ≡ to - from
    as-many = length-take-le (to - from) (drop from w) (rw length-drop (omega arith))

    over : put_mid from (to - from) w ys ≡ overlay from zeros w
    over = mid-overlay from (to - from) zeros ys w (e ∙ ap (λ (m : ℕ). replicate m 0) as-many) (sym (length-replicate (to - from) 0)) (omega arith)

-- ---- what holds only 0

pub le-zeros : (k : ℕ) → le (replicate k 0) ≡ 0
le-zeros zero = refl
le-zeros (suc k) = rw (le-zeros k)

pub chunk-zeros : (n p k : ℕ) → p + k ≤ n → chunk (replicate n 0) p k ≡ replicate k 0
unfolding chunk
chunk-zeros n zero zero h = refl
chunk-zeros zero zero (suc k) h = absurd (omega arith)
chunk-zeros (suc n) zero (suc k) h = ap (λ (l : List ℕ). 0 ∷ l) (chunk-zeros n zero k (omega arith))
chunk-zeros zero (suc p) k h = absurd (omega arith)
chunk-zeros (suc n) (suc p) k h = chunk-zeros n p k (omega arith)

-- within what was set to 0
pub zeroed-chunk : {w w' : List ℕ} {from to : ℕ} (p k : ℕ) → Zeroed w w' from to → from ≤ p → p + k ≤ to → chunk w' p k ≡ replicate k 0
zeroed-chunk {w} {w'} {from} {to} p k Z h g =
    let e : from + (p - from) ≡ p = omega arith in
    sym (rw e at (chunk_part w' from (to - from) (p - from) k (omega arith))) ∙ rw Z.same (chunk-zeros (to - from) (p - from) k (omega arith))

-- a number in zeros
pub le_at-zeros : (k : ℕ) (w : List ℕ) (p : ℕ) → chunk w p k ≡ replicate k 0 → le_at k w p ≡ 0
le_at-zeros k w p z = rw (le_at-is k w p, z) (le-zeros k)
