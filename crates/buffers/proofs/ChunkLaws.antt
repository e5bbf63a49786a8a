-- The bytes from a place on: parts of them, the numbers in them, and how they look after bytes were laid over the list.
use mathlib.Core.Path.{◌≡◌, refl, sym, ap, ◌∙◌}
use mathlib.Core.List.{List, [], ◌∷◌, ◌++◌}
use Prim.Native.Nat.{ℕ, suc, ◌+◌, ◌-◌, ◌≤◌, ◌<◌}
use native.Mathlib.Nat.{add-zero, le_refl}
use native.Mathlib.Omega.{arith}
use lib.ListN.{length, take, drop, set, get_or, length-drop, take-append-drop}
use lib.Seq.{length-take-le, take-take, take-add, drop-drop, drop-cons, get_or-take, get_or-drop, drop-set-lt}
use Rattle.tlv.specs.Bytes.{le, le_at}
use Rattle.tlv.proofs.WidthLaws.{drop_take, drop_part, le_at-part}
use Rattle.buffers.specs.Buffer.{overlay}
use Rattle.buffers.specs.Table.{chunk}
use Rattle.buffers.proofs.BufferLaws.{take-overlay, part-overlay}

pub chunk-length : (w : List ℕ) (p k : ℕ) → p + k ≤ length w → length (chunk w p k) ≡ k
unfolding chunk
chunk-length w p k h = length-take-le k (drop p w) (simp length-drop (omega arith))

-- byte i of a chunk
pub chunk-byte : (w : List ℕ) (p k i : ℕ) → i < k → get_or (chunk w p k) i 0 ≡ get_or w (p + i) 0
unfolding chunk
chunk-byte w p k i h = rw (get_or-take, get_or-drop)

pub chunk-none : (w : List ℕ) (p : ℕ) → chunk w p 0 ≡ []
unfolding chunk
chunk-none w p = refl

pub chunk-cons : (w : List ℕ) (p k : ℕ) → p < length w → chunk w p (suc k) ≡ get_or w p 0 ∷ chunk w (suc p) k
unfolding chunk
chunk-cons w p k h = ap (take (suc k)) (drop-cons w p 0 h)

pub chunk-add : (w : List ℕ) (p j k : ℕ) → chunk w p (j + k) ≡ chunk w p j ++ chunk w (p + j) k
unfolding chunk
chunk-add w p j k = rw (take-add j k (drop p w), drop-drop)

-- a chunk of a chunk
pub chunk_part : (w : List ℕ) (p k i m : ℕ) → i + m ≤ k → chunk (chunk w p k) i m ≡ chunk w (p + i) m
unfolding chunk
chunk_part w p k i m h = rw (drop_part w p k i, take-take m (k - i) (drop (p + i) w) (omega arith))

-- ---- the numbers in a chunk

-- the number of k bytes is the number that its chunk is
pub le_at-is : (k : ℕ) (w : List ℕ) (p : ℕ) → le_at k w p ≡ le (chunk w p k)
unfolding le_at chunk
le_at-is k w p = refl

-- a number in a record is the number in the table
pub le_at-chunk : (k : ℕ) (w : List ℕ) (p m i : ℕ) → i + k ≤ m → le_at k (chunk w p m) i ≡ le_at k w (p + i)
unfolding chunk
le_at-chunk k w p m i h = le_at-part k w p m i h

-- the same of a record's first number
pub le_at-front : (k : ℕ) (w : List ℕ) (p m : ℕ) → k ≤ m → le_at k (chunk w p m) 0 ≡ le_at k w p
le_at-front k w p m h = rw add-zero at (le_at-chunk k w p m 0 (omega arith))

-- ---- bytes laid over

-- what stands behind is as it was
pub drop-overlay : (q p : ℕ) (bs w : List ℕ) → p + length bs ≤ q → drop q (overlay p bs w) ≡ drop q w
drop-overlay q p [] w h = refl
drop-overlay q p (b ∷ bs) w h = drop-overlay q (p + 1) bs (set w p b) (omega arith) ∙ drop-set-lt q w p b (omega arith)

-- what was laid down is read back
pub chunk-over : (p : ℕ) (bs w : List ℕ) (k : ℕ) → length bs ≡ k → p + k ≤ length w → chunk (overlay p bs w) p k ≡ bs
unfolding chunk
chunk-over p bs w k e h = rw e at (part-overlay p bs w (omega arith))

-- a chunk behind, and one before
pub chunk-behind : (p : ℕ) (bs w : List ℕ) (q k : ℕ) → p + length bs ≤ q → chunk (overlay p bs w) q k ≡ chunk w q k
unfolding chunk
chunk-behind p bs w q k h = rw (drop-overlay q p bs w h)

before : (w : List ℕ) (q k p : ℕ) → q + k ≤ p → take k (drop q (take p w)) ≡ take k (drop q w)
before w q k p h = rw (drop_take q p w, take-take k (p - q) (drop q w) (omega arith))

pub chunk-before : (p : ℕ) (bs w : List ℕ) (q k : ℕ) → q + k ≤ p → chunk (overlay p bs w) q k ≡ chunk w q k
unfolding chunk
chunk-before p bs w q k h = sym (before (overlay p bs w) q k p h) ∙ rw (take-overlay p p bs w (le_refl p), before w q k p h)

-- the whole list: what stands before, what was laid down, what stands behind
pub overlay-eq : (p : ℕ) (bs w : List ℕ) → p + length bs ≤ length w → overlay p bs w ≡ take p w ++ (bs ++ drop (p + length bs) w)
overlay-eq p bs w h =
    let O : List ℕ = overlay p bs w in
    sym (take-append-drop p O)
    ∙ ap (λ (l : List ℕ). take p O ++ l) (sym (take-append-drop (length bs) (drop p O)))
    ∙ rw (drop-drop (length bs) p O, part-overlay p bs w h, take-overlay p p bs w (le_refl p), drop-overlay (p + length bs) p bs w (le_refl (p + length bs)))

-- ---- a part of the slice that was lent, `&mut w[a..e]`: it is a chunk, and comes back as bytes laid over

pub part-is : (w : List ℕ) (a e : ℕ) → take (e - a) (drop a w) ≡ chunk w a (e - a)
unfolding chunk
part-is w a e = refl
