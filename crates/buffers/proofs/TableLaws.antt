-- What stays where bytes are written, and what the writes promise: a number by its halves, a record copied from its first byte on.
use mathlib.Core.Path.{◌≡◌, refl, ap, ◌∙◌}
use mathlib.Core.Logic.{◌⊎◌, inl, inr, ⊎_elim}
use mathlib.Core.List.{List, [], ◌∷◌}
use Prim.Native.Nat.{ℕ, zero, suc, ◌+◌, ◌-◌, ◌*◌, ◌/◌, ◌%◌, ◌^◌, ◌≤◌, ◌<◌}
use native.Mathlib.Nat.{mod-add-div, mul-le-mul_right}
use native.Mathlib.Omega.{arith}
use lib.ListN.{length, drop, set, get_or}
use Rattle.tlv.specs.Bytes.{Bytes, le, bytes_of, le_at}
use Rattle.tlv.proofs.ListLaws.{all_take, all_drop}
use Rattle.tlv.proofs.ByteLaws.{le-bytes_of, bytes_of-le, length-bytes_of}
use Rattle.tlv.proofs.WidthLaws.{le_at-add, bytes_of-add}
use Rattle.buffers.specs.Buffer.{overlay}
use Rattle.buffers.specs.Table.{chunk, Apart, Kept, Clear, KeptBut, Wrote, CopiedBytes}
use Rattle.buffers.proofs.BufferLaws.{length-overlay, overlay-append}
use Rattle.buffers.proofs.ChunkLaws.{chunk-length, chunk-none, chunk-cons, chunk-add, chunk-over, chunk-behind, chunk-before, le_at-is}

-- ---- where the records stand

pub le-or_lt : (a b : ℕ) → (a ≤ b) ⊎ (b < a)
le-or_lt zero b = inl (omega arith)
le-or_lt (suc a) zero = inr (omega arith)
le-or_lt (suc a) (suc b) = ⊎_elim (λ l. inl (omega arith)) (λ l. inr (omega arith)) (le-or_lt a b)

-- record i lies within the n records
pub inside : (i n s : ℕ) → i < n → i * s + s ≤ n * s
inside i n s h = omega (arith, mul-le-mul_right s h)

-- two records of one table lie apart
pub apart_of : (b i j s : ℕ) → ((i ≡ j) → ⊥) → Apart (b + i * s) s (b + j * s) s
apart_of b i j s h = go (le-or_lt i j)
  where
    go : (i ≤ j) ⊎ (j < i) → Apart (b + i * s) s (b + j * s) s
    go (inl l) = let l' : i < j = omega arith in inl (omega (arith, inside i j s l'))
    go (inr l) = inr (omega (arith, inside j i s l))

-- record x of a table that lies apart lies apart
pub apart-record : (s b n q m x : ℕ) → Apart b (n * s) q m → x < n → Apart (b + x * s) s q m
apart-record s b n q m x a h = ⊎_elim (λ l. inl (omega (arith, inside x n s h))) (λ l. inr (omega arith)) a

pub clear-record : (s b n x : ℕ) (rs : List (ℕ × ℕ)) → Clear b (n * s) rs → x < n → Clear (b + x * s) s rs
clear-record s b n x [] c h = tt
clear-record s b n x (r ∷ rs) c h = (apart-record s b n r.0 r.1 x c.0 h, clear-record s b n x rs c.1 h)

-- ---- one stretch may have changed

pub kept_refl : (w : List ℕ) (p m : ℕ) → Kept w w p m
kept_refl w p m = record { same = λ q k a. refl }

pub kept_trans : {w w' w'' : List ℕ} {p m : ℕ} → Kept w w' p m → Kept w' w'' p m → Kept w w'' p m
kept_trans K L = record { same = λ q k a. L.same q k a ∙ K.same q k a }

-- a wider stretch
pub kept-wide : {w w' : List ℕ} {p m : ℕ} (p' m' : ℕ) → Kept w w' p m → p' ≤ p → p + m ≤ p' + m' → Kept w w' p' m'
kept-wide p' m' K h g = record { same = λ q k. ⊎_elim (λ a. K.same q k (inl (omega arith))) (λ a. K.same q k (inr (omega arith))) }

-- bytes laid over change no others
pub kept-over : (p : ℕ) (bs w : List ℕ) (m : ℕ) → length bs ≡ m → Kept w (overlay p bs w) p m
kept-over p bs w m e = record { same = λ q k. ⊎_elim (λ h. chunk-before p bs w q k h) (λ h. chunk-behind p bs w q k (omega arith)) }

pub le_at-kept : {w w' : List ℕ} {p m : ℕ} (k q : ℕ) → Kept w w' p m → Apart q k p m → le_at k w' q ≡ le_at k w q
le_at-kept {w} {w'} k q K a = rw (le_at-is k w' q, le_at-is k w q, K.same q k a)

-- ---- several stretches may have changed

-- the m bytes from p on lie within one of the stretches
pub data Within (p m : ℕ) : List (ℕ × ℕ) → Type 0 where
  here : {r : ℕ × ℕ} {rs : List (ℕ × ℕ)} → r.0 ≤ p → p + m ≤ r.0 + r.1 → Within p m (r ∷ rs)
  there : {r : ℕ × ℕ} {rs : List (ℕ × ℕ)} → Within p m rs → Within p m (r ∷ rs)

clear_within : {p m : ℕ} {rs : List (ℕ × ℕ)} (q k : ℕ) → Within p m rs → Clear q k rs → Apart q k p m
clear_within q k (here h g) c = ⊎_elim (λ l. inl (omega arith)) (λ l. inr (omega arith)) c.0
clear_within q k (there i) c = clear_within q k i c.1

pub but_of : {w w' : List ℕ} {p m : ℕ} {rs : List (ℕ × ℕ)} → Kept w w' p m → Within p m rs → KeptBut w w' rs
but_of K i = record { same = λ q k c. K.same q k (clear_within q k i c) }

pub but_one : {w w' : List ℕ} {p m : ℕ} → Kept w w' p m → KeptBut w w' ((p, m) ∷ [])
but_one K = record { same = λ q k c. K.same q k c.0 }

pub le_at-but : {w w' : List ℕ} {rs : List (ℕ × ℕ)} (k q : ℕ) → KeptBut w w' rs → Clear q k rs → le_at k w' q ≡ le_at k w q
le_at-but {w} {w'} k q K c = rw (le_at-is k w' q, le_at-is k w q, K.same q k c)

pub but_refl : (w : List ℕ) (rs : List (ℕ × ℕ)) → KeptBut w w rs
but_refl w rs = record { same = λ q k c. refl }

pub but_trans : {w w' w'' : List ℕ} {rs : List (ℕ × ℕ)} → KeptBut w w' rs → KeptBut w' w'' rs → KeptBut w w'' rs
but_trans K L = record { same = λ q k c. L.same q k c ∙ K.same q k c }

-- ---- a number was written

-- its bytes laid over are all that a write promises
pub wrote : {w w' : List ℕ} {p k v : ℕ} → w' ≡ overlay p (bytes_of k v) w → p + k ≤ length w → v < 256 ^ k → Wrote w w' p k v
wrote {w} {w'} {p} {k} {v} e h b = record {
  bytes = e;
  value = rw (e, le_at-is, chunk-over p (bytes_of k v) w k (length-bytes_of k v) h) (le-bytes_of k v b);
  rest = rw e (kept-over p (bytes_of k v) w k (length-bytes_of k v));
}

-- one byte
pub wrote_byte : (w : List ℕ) (p v : ℕ) → p < length w → v < 256 → Wrote w (set w p v) p 1 v
unfolding bytes_of
wrote_byte w p v h b = let e : v % 256 ≡ v = omega arith in wrote (rw e) (omega arith) b

-- its low half and then its high half
pub wrote_halves : (j k : ℕ) {w w₁ w₂ : List ℕ} {p v : ℕ} → p + (j + k) ≤ length w → Wrote w w₁ p j (v % 256 ^ j) → Wrote w₁ w₂ (p + j) k (v / 256 ^ j) → Wrote w w₂ p (j + k) v
wrote_halves j k {w} {w₁} {w₂} {p} {v} h L H = record {
  bytes = e;
  value = rw (le_at-add j k w₂ p (rw (e, length-overlay) (omega arith)), le_at-kept j p H.rest (inl (omega arith)), L.value, H.value) (mod-add-div v (256 ^ j));
  rest = rw e (kept-over p (bytes_of (j + k) v) w (j + k) (length-bytes_of (j + k) v));
}
  where
    e : w₂ ≡ overlay p (bytes_of (j + k) v) w
    e = H.bytes ∙ rw (L.bytes, bytes_of-add j k v, overlay-append p (bytes_of j (v % 256 ^ j)) (bytes_of k (v / 256 ^ j)) w, length-bytes_of)

-- ---- a record was copied

-- its bytes laid over are all that a copy promises
copied : {w w' : List ℕ} {from to size : ℕ} → w' ≡ overlay to (chunk w from size) w → from + size ≤ length w → to + size ≤ length w → CopiedBytes w w' from to size
copied {w} {w'} {from} {to} {size} e f t =
    let full : length (chunk w from size) ≡ size = chunk-length w from size f in
    record {
      bytes = e;
      same = rw e (chunk-over to (chunk w from size) w size full t);
      rest = rw e (kept-over to (chunk w from size) w size full);
    }

-- one byte
copied_byte : (w : List ℕ) (from to : ℕ) → from < length w → to < length w → CopiedBytes w (set w to (get_or w from 0)) from to 1
copied_byte w from to f t = copied (rw (chunk-cons w from 0 f, chunk-none)) (omega arith) (omega arith)

-- a number that was read and written: its bytes are those that it was read from
pub copied-number : {w w' : List ℕ} {k from to v : ℕ} → Bytes w → v ≡ le_at k w from → Wrote w w' to k v → from + k ≤ length w → to + k ≤ length w → CopiedBytes w w' from to k
unfolding chunk
copied-number {w} {w'} {k} {from} {to} b e W f t =
    let small : Bytes (chunk w from k) = all_take (λ x. x < 256) k (drop from w) (all_drop (λ x. x < 256) from w b) in
    let back : bytes_of k (le (chunk w from k)) ≡ chunk w from k = rw (chunk-length w from k f) at (bytes_of-le (chunk w from k) small) in
    copied (W.bytes ∙ rw (e, le_at-is k w from, back)) f t

-- the first i bytes, and then k more: from the first on, so that none that is still to be read was overwritten
copied_then : {w w₁ w₂ : List ℕ} {from to size i k : ℕ} → CopiedBytes w w₁ from to i → CopiedBytes w₁ w₂ (from + i) (to + i) k
    → ((to ≤ from) ⊎ (from + size ≤ to)) → i + k ≤ size → from + size ≤ length w → to + size ≤ length w → CopiedBytes w w₂ from to (i + k)
copied_then {w} {w₁} {w₂} {from} {to} {size} {i} {k} C D a h f t =
    let kept : chunk w₁ (from + i) k ≡ chunk w (from + i) k = C.rest.same (from + i) k (⊎_elim (λ g. inr (omega arith)) (λ g. inl (omega arith)) a) in
    let part : length (chunk w from i) ≡ i = chunk-length w from i (omega arith) in
    copied (D.bytes ∙ rw (kept, C.bytes, chunk-add w from i k, overlay-append to (chunk w from i) (chunk w (from + i) k) w, part)) (omega arith) (omega arith)

-- the first i bytes of a copy that goes from the first byte on
pub record Copying (w₀ w : List ℕ) (from to size i : ℕ) : Type 0 where
  pub within : i ≤ size
  pub done : CopiedBytes w₀ w from to i
  pub length-same : length w ≡ length w₀

pub copying-start : (w : List ℕ) (from to size : ℕ) → from ≤ length w → to ≤ length w → Copying w w from to size 0
copying-start w from to size f t = record { within = omega arith; done = copied (rw chunk-none) (omega arith) (omega arith); length-same = refl }

module _ {w₀ w : List ℕ} {from to size i : ℕ} (C : Copying w₀ w from to size i) (f : from + size ≤ length w₀) (t : to + size ≤ length w₀) where
  pub copying_more : {w' : List ℕ} {k : ℕ} → ((to ≤ from) ⊎ (from + size ≤ to)) → k ≤ size - i → CopiedBytes w w' (from + i) (to + i) k → Copying w₀ w' from to size (i + k)
  copying_more {w'} {k} a h D =
      let in_size : i ≤ size = C.within in
      record {
        within = omega arith;
        done = copied_then C.done D a (omega arith) f t;
        length-same = ap length D.bytes ∙ length-overlay (to + i) (chunk w (from + i) k) w ∙ C.length-same;
      }

  pub copying_byte : ((to ≤ from) ⊎ (from + size ≤ to)) → i < size → Copying w₀ (set w (to + i) (get_or w (from + i) 0)) from to size (i + 1)
  copying_byte a h = let same : length w ≡ length w₀ = C.length-same in copying_more a (omega arith) (copied_byte w (from + i) (to + i) (omega arith) (omega arith))

  pub copying_done : size ≤ i → CopiedBytes w₀ w from to size
  copying_done h = let e : i ≡ size = omega (arith, C.within) in rw e at C.done

-- a part, and then what is left
pub copied_rest : {w w₁ w₂ : List ℕ} {from to size i : ℕ} → (i ≤ size) × CopiedBytes w w₁ from to i → CopiedBytes w₁ w₂ (from + i) (to + i) (size - i)
    → ((to ≤ from) ⊎ (from + size ≤ to)) → from + size ≤ length w → to + size ≤ length w → CopiedBytes w w₂ from to size
copied_rest {size = size} {i} C D a f t =
    let h : i ≤ size = C.0 in
    let e : i + (size - i) ≡ size = omega arith in
    rw e at (copied_then C.1 D a (omega arith) f t)
