-- Puts into a tray, one after the other: what they make together, what a loop of them has left to do, and what the tray then holds.
use mathlib.Core.Path.{◌≡◌, refl, sym, ap, ◌∙◌}
use mathlib.Core.Bool.{Bool, true}
use mathlib.Core.List.{List, [], ◌∷◌, ◌++◌, append_assoc}
use Prim.Native.Nat.{ℕ, suc, ◌+◌, ◌<◌, ◌≤◌, min}
use native.Mathlib.Nat.{add-zero, zero-add}
use native.Mathlib.Numerals.{add-one}
use native.Mathlib.Decide.{dec_le}
use native.Mathlib.Omega.{arith}
use borrow.Author.Tests.{leb-true}
use lib.Dec.{leb}
use lib.ListN.{length, set, take, drop, get_or, length-set, length-append}
use borrow.Rule.Slice.PartMut.{put_mid}
use lib.Seq.{drop-drop, set_out, take-suc, take_all, take-set-le, sets, sets-eq, drop_at, take-append_seam, length-take-le}
use Rattle.tlv.specs.Bytes.{bytes_of}
use Rattle.tlv.proofs.ByteLaws.{length-bytes_of}
use Rattle.buffers.specs.Buffer.{top, moved, overlay, Put}
use Rattle.buffers.specs.Table.{Wrote}

-- ---- laying bytes over a tray

pub length-overlay : (at : ℕ) (bs t : List ℕ) → length (overlay at bs t) ≡ length t
length-overlay at [] t = refl
length-overlay at (b ∷ bs) t = length-overlay (at + 1) bs (set t at b) ∙ length-set t at b

-- past the end nothing is laid
pub overlay-out : (at : ℕ) (bs t : List ℕ) → length t ≤ at → overlay at bs t ≡ t
overlay-out at [] t h = refl
overlay-out at (b ∷ bs) t h = rw (set_out t at b h) (overlay-out (at + 1) bs t (omega arith))

pub overlay-append : (at : ℕ) (a b t : List ℕ) → overlay at (a ++ b) t ≡ overlay (at + length a) b (overlay at a t)
overlay-append at [] b t = rw add-zero
overlay-append at (x ∷ a) b t =
    let e : at + 1 + length a ≡ at + suc (length a) = omega arith in
    overlay-append (at + 1) a b (set t at x) ∙ ap (λ (n : ℕ). overlay n b (overlay (at + 1) a (set t at x))) e

overlay-min : (m k : ℕ) (b t : List ℕ) → length t ≤ k → overlay (min m k) b t ≡ overlay m b t
overlay-min m k b t h =
    elim (dec_le m k) [
      | yes l ↦ let e : min m k ≡ m = omega arith in rw e
      | no g ↦ let e : min m k ≡ k = omega arith in rw (e, overlay-out k b t h, overlay-out m b t (omega arith))
    ]

-- a place that stopped at the largest is past the end of any tray
overlay-moved : (at n : ℕ) (b t : List ℕ) → length t ≤ top → overlay (moved at n) b t ≡ overlay (at + n) b t
overlay-moved at n b t h = overlay-min (at + n) top b t h

-- what is laid at or above k leaves what is below k as it was
pub take-overlay : (k at : ℕ) (bs t : List ℕ) → k ≤ at → take k (overlay at bs t) ≡ take k t
take-overlay k at [] t h = refl
take-overlay k at (b ∷ bs) t h = take-overlay k (at + 1) bs (set t at b) (omega arith) ∙ take-set-le k t at b h

overlay-sets : (at : ℕ) (bs t : List ℕ) → overlay at bs t ≡ sets t at bs
overlay-sets at [] t = refl
overlay-sets at (b ∷ bs) t = overlay-sets (at + 1) bs (set t at b) ∙ rw add-one

-- what was laid within a tray stands in it
pub part-overlay : (at : ℕ) (bs t : List ℕ) → at + length bs ≤ length t → take (length bs) (drop at (overlay at bs t)) ≡ bs
part-overlay at bs t h =
    rw (overlay-sets at bs t, sets-eq bs t at h, append_assoc (take at t) bs (drop (at + length bs) t), drop_at (take at t) (bs ++ drop (at + length bs) t) at (length-take-le at t (omega arith)), take-append_seam bs (drop (at + length bs) t))

-- the whole tray, where all that is laid from its start on fits
pub overlay-whole : (bs t : List ℕ) → length bs ≤ length t → overlay 0 bs t ≡ bs ++ drop (length bs) t
overlay-whole bs t h = overlay-sets 0 bs t ∙ (rw zero-add at (sets-eq bs t 0 (omega arith)))

-- bytes that take the place of as many are laid
pub mid-overlay : (at k : ℕ) (bs ys t : List ℕ) → ys ≡ bs → k ≡ length bs → at + k ≤ length t → put_mid at k t ys ≡ overlay at bs t
mid-overlay at k bs ys t e n h = rw (e, n, drop-drop (length bs) at t, overlay-sets at bs t, sets-eq bs t at (omega arith), append_assoc (take at t) bs (drop (at + length bs) t))

-- ---- puts

infixl 5 ◌then◌
-- one put after another is the put of both
pub ◌then◌ : {at p q : ℕ} {a b t t' t'' : List ℕ} → Put at a t t' p → Put p b t' t'' q → Put at (a ++ b) t t'' q
◌then◌ {at} {p} {q} {a} {b} {t} {t'} {t''} f g =
    record {
      buffer = g.buffer ∙ rw (g-place, f.buffer, overlay-moved at (length a) b (overlay at a t) (rw length-overlay (omega (arith, f.small))), ← overlay-append at a b t);
      place = rw (length-append a b) (omega arith);
      small = f.small;
    }
  where
    g-place : p ≡ moved at (length a)
    g-place = f.place

-- past the end nothing is laid, and the place goes on
pub put-out : {at r n : ℕ} {bs t : List ℕ} → length t ≤ at → length t < top → length bs ≡ n → r ≡ moved at n → Put at bs t t r
put-out {at} {r} {n} {bs} {t} h small e is = record { buffer = sym (overlay-out at bs t h); place = is ∙ ap (moved at) (sym e); small = small }

-- no byte: the place stays
pub put-none : {at : ℕ} {t : List ℕ} → at ≤ top → length t < top → Put at [] t t at
put-none h k = record { buffer = refl; place = omega arith; small = k }

-- a put of what is equal
pub put_as : {at r : ℕ} {a b t t' : List ℕ} → a ≡ b → Put at b t t' r → Put at a t t' r
put_as e f = rw e f

-- nothing to put
pub put-nothing : {at : ℕ} {a t : List ℕ} → a ≡ [] → at ≤ top → length t < top → Put at a t t at
put-nothing e h k = rw e (put-none h k)

-- a byte, and then the others
pub put-cons : {at p q b : ℕ} {bs t t' t'' : List ℕ} → Put at (b ∷ []) t t' p → Put p bs t' t'' q → Put at (b ∷ bs) t t'' q
put-cons f g = f then g

-- the tray's length stays
pub put-length : {at r : ℕ} {bs t t' : List ℕ} → Put at bs t t' r → length t' ≡ length t
put-length {at} {r} {bs} {t} f = ap length f.buffer ∙ length-overlay at bs t

-- ---- a put of which all fits

-- what it says
pub has_room : {r : Bool} (n m : ℕ) → r ≡ leb n m → r ≡ true → n ≤ m
has_room n m e is = leb-true n m (sym e ∙ is)

-- a number that fits, written at once, is put
pub wrote_put : {r : Bool} {at k v : ℕ} {t t' : List ℕ} → r ≡ leb (at + k) (length t) → r ≡ true → Wrote t t' at k v → length t < top → Put at (bytes_of k v) t t' (at + k)
wrote_put {at = at} {k} {t = t} e is W s = let h : at + k ≤ length t = has_room (at + k) (length t) e is in record { buffer = W.bytes; place = rw length-bytes_of (omega arith); small = s }

-- ---- a list put byte by byte

-- a loop: one byte more, and the end
pub put-more : {at p q : ℕ} {t t' t'' : List ℕ} (bs : List ℕ) (i : ℕ) → i < length bs → Put at (take i bs) t t' p → Put p (get_or bs i 0 ∷ []) t' t'' q → Put at (take (i + 1) bs) t t'' q
put-more bs i h f g = rw (add-one i, take-suc bs i 0) (f then g)

pub put_all : {at r i : ℕ} {bs t t' : List ℕ} → length bs ≤ i → Put at (take i bs) t t' r → Put at bs t t' r
put_all {i = i} {bs = bs} h f = rw (take_all i bs h) at f

-- one byte more, where all of the list fits
pub put_next : {at : ℕ} {t t' : List ℕ} (bs : List ℕ) (i : ℕ) → Put at (take i bs) t t' (at + i) → i < length bs → at + length bs ≤ length t → Put at (take (i + 1) bs) t (set t' (at + i) (get_or bs i 0)) (at + (i + 1))
put_next {at} {t} {t'} bs i f h fits =
    let same : length t' ≡ length t = put-length f in
    put-more bs i h f (record { buffer = refl; place = omega (arith, f.small); small = omega (arith, f.small) })

-- ---- a loop of puts

-- What a run of puts has left to do: whoever puts `rest` from here on has put `all` from the start. The invariant of a loop of puts.
pub record Left (at₀ : ℕ) (all t₀ : List ℕ) (at : ℕ) (rest t : List ℕ) : Type 0 where
  pub finish : (t' : List ℕ) (r : ℕ) → Put at rest t t' r → Put at₀ all t₀ t' r
  pub fits : at ≤ top
  pub small : length t < top
  pub same : length t ≡ length t₀

pub left-start : (at : ℕ) (all t : List ℕ) → at ≤ top → length t < top → Left at all t at all t
left-start at all t h k = record { finish = λ t' r f. f; fits = h; small = k; same = refl }

pub left-put : {at₀ at p : ℕ} {all t₀ a t t' : List ℕ} (rest rest' : List ℕ) → Left at₀ all t₀ at rest t → rest ≡ a ++ rest' → Put at a t t' p → Left at₀ all t₀ p rest' t'
left-put {at₀} {at} {p} {all} {t₀} {a} {t} {t'} rest rest' l e f =
    record {
      finish = λ t'' r g. l.finish t'' r (rw e (f then g));
      fits = omega (arith, f.place);
      small = rw (put-length f) l.small;
      same = put-length f ∙ l.same;
    }

pub left-same : {at₀ at : ℕ} {all t₀ t rest rest' : List ℕ} → Left at₀ all t₀ at rest t → rest ≡ rest' → Left at₀ all t₀ at rest' t
left-same l e = rw e at l

pub left-done : {at₀ at : ℕ} {all t₀ t rest : List ℕ} → Left at₀ all t₀ at rest t → rest ≡ [] → Put at₀ all t₀ t at
left-done {at = at} {t = t} l e = l.finish t at (rw e (put-none l.fits l.small))

-- ---- what the tray holds in the end

-- a place within the tray: all of it fits
pub put-fits : {at r : ℕ} {bs t t' : List ℕ} → Put at bs t t' r → r ≤ length t' → at + length bs ≤ length t
put-fits f h = omega (arith, f.place, f.small, put-length f)

-- from the start on: the tray is the output and then what it held behind it
pub put_whole : {r : ℕ} {out t t' : List ℕ} → Put 0 out t t' r → r ≤ length t' → t' ≡ out ++ drop (length out) t
put_whole {r} {out} {t} f h = f.buffer ∙ overlay-whole out t (omega (arith, put-fits f h))

-- a place past the tray: the output is longer than it
pub put-lost : {r : ℕ} {out t t' : List ℕ} → Put 0 out t t' r → length t' < r → length t < length out
put-lost f h = omega (arith, f.place, put-length f)

-- a number that was written at the front
pub wrote-front : {w w' : List ℕ} {k v : ℕ} → Wrote w w' 0 k v → k ≤ length w → bytes_of k v ≡ take k w'
wrote-front {w} {w'} {k} {v} W h =
    let n = length-bytes_of k v in
    let p : take (length (bytes_of k v)) (overlay 0 (bytes_of k v) w) ≡ bytes_of k v = part-overlay 0 (bytes_of k v) w (omega (arith, n)) in
    rw W.bytes (sym (rw n at p))
