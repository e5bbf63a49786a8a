-- Ranges in the work slice, and the loops over them: whether one lies inside some, one more in place.
use mathlib.Core.Path.{◌≡◌, refl, sym, ap, ◌∙◌}
use mathlib.Core.Logic.{inl, inr}
use mathlib.Core.List.{List, [], ◌∷◌, ◌++◌, append_assoc, append-nil}
use mathlib.Core.Bool.{Bool, true, false, cond, ◌&&◌, ◌||◌}
use Prim.Native.Nat.{ℕ, ◌+◌, ◌-◌, ◌*◌, ◌≤◌, ◌<◌}
use native.Mathlib.Nat.{add-zero}
use native.Mathlib.Omega.{arith}
use lib.Dec.{leb}
use lib.ListN.{length, take, drop}
use borrow.Author.Tests.{lt-ltb, le-ltb, leb-true, leb-false}
use Rattle.tlv.specs.declared.model.AddressRange.{AddressRange}
use Rattle.tlv.specs.Addresses.{Nonempty}
use Rattle.tlv.specs.Lists.{exists}
use Rattle.tlv.specs.Model.{range_of}
use Rattle.buffers.specs.Output.{range_bytes, each_of}
use Rattle.buffers.specs.Table.{chunk, Apart as Beside, Kept, Clear, KeptBut, PutRange}
use Rattle.buffers.proofs.TableLaws.{kept_refl, kept-wide, kept_trans}
use Rattle.buffers.proofs.RecordLaws.{records-length, records-nil, records-suc, records-add, records-rest_none, records-rest_cons, records-kept, records-but, records-push}
use Rattle.imports.specs.Ranges.{Apart}
use Rattle.imports.specs.Tree.{lies_in, fit}
use Rattle.ranges.specs.RangeTable.{ranges_at, hull, add_one, Inserted, Added, PutFit}
use Rattle.ranges.proofs.InsertLaws.{add_stay, add_pass, add_join, add_apart, add_is, add_last}

-- ---- a range at a place

-- as it is read
pub read_chunk : (w : List ℕ) (p : ℕ) {r : AddressRange} → r ≡ range_of (take 16 (drop p w)) → r ≡ range_of (chunk w p 16)
unfolding chunk
read_chunk w p e = e

-- ---- the ranges of a table

pub ranges-length : (w : List ℕ) (p n : ℕ) → length (ranges_at w p n) ≡ n
unfolding ranges_at
ranges-length w p n = records-length range_of 16 w p n

pub ranges-nil : (w : List ℕ) (p : ℕ) → ranges_at w p 0 ≡ []
unfolding ranges_at
ranges-nil w p = records-nil range_of 16 w p

-- those from range i on
pub ranges-end : (w : List ℕ) (p n i : ℕ) → n ≤ i → drop i (ranges_at w p n) ≡ []
unfolding ranges_at
ranges-end w p n i h = records-rest_none range_of 16 w p n i h

pub ranges-cons : (w : List ℕ) (p n i : ℕ) → i < n → drop i (ranges_at w p n) ≡ range_of (chunk w (p + i * 16) 16) ∷ drop (i + 1) (ranges_at w p n)
unfolding ranges_at
ranges-cons w p n i h = records-rest_cons range_of 16 w p n i h

pub ranges-suc : (w : List ℕ) (p n : ℕ) → ranges_at w p (n + 1) ≡ ranges_at w p n ++ (range_of (chunk w (p + n * 16) 16) ∷ [])
unfolding ranges_at
ranges-suc w p n = records-suc range_of 16 w p n

pub ranges-add : (w : List ℕ) (p i m : ℕ) → ranges_at w p (i + m) ≡ ranges_at w p i ++ ranges_at w (p + i * 16) m
unfolding ranges_at
ranges-add w p i m = records-add range_of 16 w p i m

pub ranges-one : (w : List ℕ) (p : ℕ) → ranges_at w p 1 ≡ range_of (chunk w p 16) ∷ []
ranges-one w p = ranges-suc w p 0 ∙ rw (ranges-nil w p, add-zero p)

-- what was written is the one range there
pub range-there : {w w' : List ℕ} {p : ℕ} {r : AddressRange} → PutRange w w' p r → ranges_at w' p 1 ≡ r ∷ []
range-there {w} {w'} {p} P = ranges-one w' p ∙ ap (λ (x : AddressRange). x ∷ []) P.value

-- what is written elsewhere leaves them as they were
pub ranges-but : {w w' : List ℕ} {rs : List (ℕ × ℕ)} (q n : ℕ) → KeptBut w w' rs → Clear q (n * 16) rs → ranges_at w' q n ≡ ranges_at w q n
unfolding ranges_at
ranges-but q n K c = records-but range_of 16 q n K c

pub ranges-kept : {w w' : List ℕ} {p m : ℕ} (q n : ℕ) → Kept w w' p m → Beside q (n * 16) p m → ranges_at w' q n ≡ ranges_at w q n
unfolding ranges_at
ranges-kept q n K a = records-kept range_of 16 q n K a

pub ranges-below : {w w' : List ℕ} {p m : ℕ} (q n : ℕ) → Kept w w' p m → q + n * 16 ≤ p → ranges_at w' q n ≡ ranges_at w q n
ranges-below q n K h = ranges-kept q n K (inl h)

pub ranges-push : {w w' : List ℕ} {r : AddressRange} (p o : ℕ) → PutRange w w' (p + o * 16) r → ranges_at w' p (o + 1) ≡ ranges_at w p o ++ (r ∷ [])
unfolding ranges_at
ranges-push {w} {w'} {r} p o P = records-push range_of 16 p o r P.rest P.value

-- ---- whether a range lies inside one of some, as a test of each

pub lies-exists : (rs : List AddressRange) (x : AddressRange) → lies_in rs x ≡ exists (λ r. leb r.start x.start && leb x.end r.end) rs
unfolding exists
lies-exists [] x = refl
lies-exists (r ∷ rs) x = rw (lies-exists rs x) (go (leb r.start x.start && leb x.end r.end))
  where
    go : (b : Bool) → (b || exists (λ q. leb q.start x.start && leb x.end q.end) rs) ≡ cond b true (exists (λ q. leb q.start x.start && leb x.end q.end) rs)
    go true = refl
    go false = refl

-- ---- one range more, by a pass in place: o ranges are written, and `held` is in hand

pub record Inserting (w₀ w : List ℕ) (p n : ℕ) (x held : AddressRange) (i o : ℕ) : Type 0 where
  pub within : i ≤ n
  pub behind : o ≤ i
  pub done : ranges_at w p o ++ add_one held (drop i (ranges_at w₀ p n)) ≡ add_one x (ranges_at w₀ p n)
  pub rest : Kept w₀ w p (i * 16)
  pub size : length w ≡ length w₀

pub inserting-start : (w : List ℕ) (p n : ℕ) (x : AddressRange) → Inserting w w p n x x 0 0
inserting-start w p n x = record { within = omega arith; behind = omega arith; done = rw (ranges-nil w p); rest = kept_refl w p 0; size = refl }

module _ {w₀ w : List ℕ} {p n : ℕ} {x held : AddressRange} {i o : ℕ} (A : Inserting w₀ w p n x held i o) where
  pub inserting_done : {w' : List ℕ} → n ≤ i → PutRange w w' (p + o * 16) held → Inserted w₀ w' p n x (o + 1)
  unfolding add_one
  inserting_done {w'} h P = record {
    ranges = ranges-push p o P ∙ ap (λ (l : List AddressRange). ranges_at w p o ++ add_one held l) (sym (ranges-end w₀ p n i h)) ∙ A.done;
    few = omega arith;
    rest = kept_trans (kept-wide p (n * 16 + 16) A.rest (omega arith) (omega arith)) (kept-wide p (n * 16 + 16) P.rest (omega arith) (omega arith));
  }

  module _ (h : i < n) {m : AddressRange} (em : m ≡ range_of (take 16 (drop (p + i * 16) w))) where
    -- what is not read yet is as at the start
    next : drop i (ranges_at w₀ p n) ≡ m ∷ drop (i + 1) (ranges_at w₀ p n)
    next = ranges-cons w₀ p n i h ∙ (λ k. sym (read_chunk w (p + i * 16) em ∙ ap range_of (A.rest.same (p + i * 16) 16 (inr (omega arith)))) k ∷ drop (i + 1) (ranges_at w₀ p n))

    turned : (out : List AddressRange) → add_one held (m ∷ drop (i + 1) (ranges_at w₀ p n)) ≡ out → ranges_at w p o ++ out ≡ add_one x (ranges_at w₀ p n)
    turned out q = ap (λ (l : List AddressRange). ranges_at w p o ++ l) (sym q ∙ ap (add_one held) (sym next)) ∙ A.done

    pub inserting_join : {y : AddressRange} → held.start ≤ m.end → m.start ≤ held.end → y ≡ hull held m → Inserting w₀ w p n x y (i + 1) o
    inserting_join l k ey = record {
      within = omega arith;
      behind = omega (arith, A.behind);
      done = rw ey (turned _ (add_join held m (drop (i + 1) (ranges_at w₀ p n)) l k));
      rest = kept-wide p ((i + 1) * 16) A.rest (omega arith) (omega arith);
      size = A.size;
    }

    -- a range r is written, and y is in hand then
    written : {w' : List ℕ} {r y : AddressRange} → add_one held (m ∷ drop (i + 1) (ranges_at w₀ p n)) ≡ r ∷ add_one y (drop (i + 1) (ranges_at w₀ p n)) → PutRange w w' (p + o * 16) r → length w' ≡ length w
        → Inserting w₀ w' p n x y (i + 1) (o + 1)
    written {w'} {r} {y} e P z = record {
      within = omega arith;
      behind = omega (arith, A.behind);
      done =
          ap (λ (l : List AddressRange). l ++ add_one y (drop (i + 1) (ranges_at w₀ p n))) (ranges-push p o P)
          ∙ append_assoc (ranges_at w p o) (r ∷ []) (add_one y (drop (i + 1) (ranges_at w₀ p n)))
          ∙ turned (r ∷ add_one y (drop (i + 1) (ranges_at w₀ p n))) e;
      rest = kept_trans (kept-wide p ((i + 1) * 16) A.rest (omega arith) (omega arith)) (kept-wide p ((i + 1) * 16) P.rest (omega arith) (omega (arith, A.behind)));
      size = z ∙ A.size;
    }

    pub inserting_stay : {w' : List ℕ} → m.end < held.start → PutRange w w' (p + o * 16) m → length w' ≡ length w → Inserting w₀ w' p n x held (i + 1) (o + 1)
    inserting_stay l P z = written (add_stay held m (drop (i + 1) (ranges_at w₀ p n)) l) P z

    pub inserting_pass : {w' : List ℕ} → held.start ≤ m.end → held.end < m.start → PutRange w w' (p + o * 16) held → length w' ≡ length w → Inserting w₀ w' p n x m (i + 1) (o + 1)
    inserting_pass l k P z = written (add_pass held m (drop (i + 1) (ranges_at w₀ p n)) l k) P z

-- ---- one range more among ranges that are apart

pub added-pass : {w w' : List ℕ} {p n : ℕ} {x : AddressRange} {r : ℕ} → Apart (ranges_at w p n) → Nonempty x → Inserted w w' p n x r → Added w w' p n x r
added-pass {w} {w'} {p} {n} {x} a h I = record {
  ranges = I.ranges ∙ add_is x (ranges_at w p n) h a;
  apart = rw I.ranges (add_apart x (ranges_at w p n) h a);
  few = I.few;
  rest = I.rest;
}

-- at the end: nothing before the last range changes
module _ (w : List ℕ) (p n : ℕ) (x l : AddressRange) (a : Apart (ranges_at w p n)) (h : Nonempty x) (some : (n ≡ 0) → ⊥) (el : l ≡ range_of (take 16 (drop (p + (n - 1) * 16) w))) (s : l.start ≤ x.start) where
  one : n - 1 + 1 ≡ n
  one = let g : (n ≡ 0) → ⊥ = some in omega arith

  split : ranges_at w p n ≡ ranges_at w p (n - 1) ++ (l ∷ [])
  split = rw one at (ranges-suc w p (n - 1) ∙ ap (λ (r : AddressRange). ranges_at w p (n - 1) ++ (r ∷ [])) (sym (read_chunk w (p + (n - 1) * 16) el)))

  at-end : add_one x (ranges_at w p n) ≡ ranges_at w p (n - 1) ++ add_one x (l ∷ [])
  at-end = rw split (add_last x l (ranges_at w p (n - 1)) (rw split at a) s)

  pub added-join : {w' : List ℕ} {y : AddressRange} → x.start ≤ l.end → y ≡ hull x l → PutRange w w' (p + (n - 1) * 16) y → Added w w' p n x n
  unfolding add_one
  added-join {w'} {y} t ey P = added-pass a h (record {
    ranges = (rw one at (ranges-push p (n - 1) P)) ∙ ap (λ (r : AddressRange). ranges_at w p (n - 1) ++ (r ∷ [])) ey ∙ sym (at-end ∙ ap (λ (r : List AddressRange). ranges_at w p (n - 1) ++ r) (add_join x l [] t (omega arith)));
    few = omega arith;
    rest = kept-wide p (n * 16 + 16) P.rest (omega arith) (omega (arith, one));
  })

  pub added-behind : {w' : List ℕ} → l.end < x.start → PutRange w w' (p + n * 16) x → Added w w' p n x (n + 1)
  unfolding add_one
  added-behind {w'} t P = added-pass a h (record {
    ranges =
        ranges-push p n P ∙ ap (λ (r : List AddressRange). r ++ (x ∷ [])) split ∙ append_assoc (ranges_at w p (n - 1)) (l ∷ []) (x ∷ [])
        ∙ sym (at-end ∙ ap (λ (r : List AddressRange). ranges_at w p (n - 1) ++ r) (add_stay x l [] t));
    few = omega arith;
    rest = kept-wide p (n * 16 + 16) P.rest (omega arith) (omega arith);
  })

-- ---- one that fits, behind the others

module _ (w : List ℕ) (q m p n : ℕ) (x : AddressRange) where
  left_out : fit (ranges_at w q m) (x ∷ []) ≡ [] → PutFit w w q m p n x n
  left_out e = record { ranges = rw (e, append-nil); few = omega arith; rest = kept_refl w p (n * 16 + 16) }

  pub fit-empty : {a : Bool} → a ≡ leb x.end x.start → a ≡ true → PutFit w w q m p n x n
  unfolding fit
  fit-empty ea e = left_out (rw (le-ltb x.start x.end (leb-true x.end x.start (sym ea ∙ e))))

  module _ {a b : Bool} (ea : a ≡ leb x.end x.start) (e : a ≡ false) (eb : b ≡ lies_in (ranges_at w q m) x) where
    h : x.start < x.end
    h = leb-false x.end x.start (sym ea ∙ e)

    pub fit-out : b ≡ false → PutFit w w q m p n x n
    unfolding fit
    fit-out no' = left_out (rw (lt-ltb x.start x.end h, ← eb, no'))

    pub fit-in : {w' : List ℕ} → b ≡ true → PutRange w w' (p + n * 16) x → PutFit w w' q m p n x (n + 1)
    unfolding fit
    fit-in yes' P = record {
      ranges = rw (lt-ltb x.start x.end h, ← eb, yes') (ranges-push p n P);
      few = omega arith;
      rest = kept-wide p (n * 16 + 16) P.rest (omega arith) (omega arith);
    }

-- ---- laid into an output buffer

pub ranges-laid : (w : List ℕ) (p k i : ℕ) → k ≤ i → each_of range_bytes (drop i (ranges_at w p k)) ≡ []
unfolding each_of
ranges-laid w p k i h = rw (ranges-end w p k i h)

pub ranges-lay : (w : List ℕ) (p k i : ℕ) (r : AddressRange) → i < k → r ≡ range_of (chunk w (p + i * 16) 16)
    → each_of range_bytes (drop i (ranges_at w p k)) ≡ range_bytes r ++ each_of range_bytes (drop (i + 1) (ranges_at w p k))
unfolding each_of
ranges-lay w p k i r h e = ap (each_of range_bytes) (ranges-cons w p k i h) ∙ rw e
