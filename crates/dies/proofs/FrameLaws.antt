-- The open inline nodes: frames by value, and their ranges in the work slice.
use mathlib.Core.Path.{◌≡◌, refl, sym, ap, ◌∙◌}
use mathlib.Core.List.{List, [], ◌∷◌}
use Prim.Native.Nat.{ℕ, zero, suc, ◌+◌, ◌-◌, ◌*◌, ◌≤◌, ◌<◌}
use native.Mathlib.Nat.{mul_comm, mul-add}
use native.Mathlib.Numerals.{add-one}
use native.Mathlib.Omega.{arith}
use lib.ListN.{length, set, length-set}
use lib.Seq.{get_or-set_same, get_or-set_other}
use borrow.Author.Tests.{le-leb, lt-leb}
use Rattle.buffers.specs.Table.{Apart, Kept, Clear, KeptBut}
use Rattle.buffers.proofs.TableLaws.{but_one}
use Rattle.files.proofs.GrownLaws.{clear-part}
use Rattle.imports.specs.Tree.{InlineFrame, finish_inlines, parent_ranges}
use Rattle.ranges.specs.RangeTable.{ranges_at}
use Rattle.ranges.proofs.RangeTableLaws.{ranges-but}
use Rattle.dies.specs.declared.frames.Frame.{Frame}
use Rattle.dies.specs.declared.frames.Open.{Open}
use Rattle.dies.specs.FrameStack.{slot, open_of, Stacked, Lean, open_in, Ready, Empty, Popped, Top, grown}

-- ---- the stack of ranges

stacked-one : (fs : List Frame) (t used : ℕ) → Stacked fs t used → 1 ≤ used
unfolding Stacked
stacked-one fs zero used h = omega arith
stacked-one fs (suc t) used h = omega (arith, stacked-one fs t (slot fs t).ranges h.1)

-- what is written outside the stack leaves the open nodes as they were
frames-but : {w w' : List ℕ} {rs : List (ℕ × ℕ)} (fs : List Frame) (t used base : ℕ) → Stacked fs t used → KeptBut w w' rs → Clear base (used * 16) rs → open_of fs t used w' base ≡ open_of fs t used w base
unfolding Stacked open_of
frames-but fs zero used base h K c = refl
frames-but {w} {w'} {rs} fs (suc t) used base h K c = λ i.
    record { die_depth = (slot fs t).depth; ranges = ranges-but (base + (slot fs t).ranges * 16) (used - (slot fs t).ranges) K (clear-part base (used * 16) (base + (slot fs t).ranges * 16) ((used - (slot fs t).ranges) * 16) rs c (omega arith) (omega (arith, h.0))) i }
    ∷ frames-but fs t (slot fs t).ranges base h.1 K (clear-part base (used * 16) base ((slot fs t).ranges * 16) rs c (omega arith) (omega (arith, h.0))) i

-- a frame above leaves the frames below as they were
pub open_set : (fs : List Frame) (n : ℕ) (x : Frame) (t used : ℕ) (w : List ℕ) (base : ℕ) → t ≤ n → open_of (set fs n x) t used w base ≡ open_of fs t used w base
unfolding open_of
open_set fs n x zero used w base h = refl
open_set fs n x (suc t) used w base h =
    let other : slot (set fs n x) t ≡ slot fs t = get_or-set_other fs n t x (record { depth = 0; ranges = 0 }) (λ e. omega arith) in
    rw (other, open_set fs n x t (slot fs t).ranges w base (omega arith))

stacked-set : (fs : List Frame) (n : ℕ) (x : Frame) (t used : ℕ) → t ≤ n → Stacked fs t used → Stacked (set fs n x) t used
unfolding Stacked
stacked-set fs n x zero used h k = k
stacked-set fs n x (suc t) used h k =
    let other : slot (set fs n x) t ≡ slot fs t = get_or-set_other fs n t x (record { depth = 0; ranges = 0 }) (λ e. omega arith) in
    rw other (k.0, stacked-set fs n x t (slot fs t).ranges (omega arith) k.1)

frames-length : (fs : List Frame) (t used : ℕ) (w : List ℕ) (base : ℕ) → length (open_of fs t used w base) ≡ t
unfolding open_of
frames-length fs zero used w base = refl
frames-length fs (suc t) used w base = ap suc (frames-length fs t (slot fs t).ranges w base)

pub length-open : (w : List ℕ) (base : ℕ) (st : Open) → length (open_in w base st) ≡ st.count
unfolding open_in
length-open w base st = frames-length st.frames st.count st.used w base

module _ (st : Open) (R : Ready st) where
  -- the function's own range is always there
  pub used-one : 1 ≤ st.used
  used-one = stacked-one st.frames st.count st.used R.stacked

  pub open_but : {w w' : List ℕ} {rs : List (ℕ × ℕ)} (base : ℕ) → KeptBut w w' rs → Clear base (st.used * 16) rs → open_in w' base st ≡ open_in w base st
  unfolding open_in
  open_but base K c = frames-but st.frames st.count st.used base R.stacked K c

  pub open_kept : {w w' : List ℕ} {p m : ℕ} (base : ℕ) → Kept w w' p m → Apart base (st.used * 16) p m → open_in w' base st ≡ open_in w base st
  open_kept base K a = open_but base (but_one K) (a, tt)

-- no node is open
none_open : (fs : List Frame) (n used : ℕ) (w : List ℕ) (base : ℕ) → n ≡ 0 → open_of fs n used w base ≡ []
unfolding open_of
none_open fs zero used w base h = refl
none_open fs (suc n) used w base h = absurd (omega arith)

pub open_none : {st : Open} → Empty st → (w : List ℕ) (base : ℕ) → open_in w base st ≡ []
unfolding open_in
open_none {st} E w base = none_open st.frames st.count st.used w base E.none

-- ---- popping

-- the innermost of n frames
pub open_top : (fs : List Frame) (n used : ℕ) (w : List ℕ) (base : ℕ) → 0 < n → open_of fs n used w base
    ≡ record { die_depth = (slot fs (n - 1)).depth; ranges = ranges_at w (base + (slot fs (n - 1)).ranges * 16) (used - (slot fs (n - 1)).ranges) } ∷ open_of fs (n - 1) (slot fs (n - 1)).ranges w base
unfolding open_of
open_top fs zero used w base h = absurd (omega arith)
open_top fs (suc t) used w base h = let e : suc t - 1 ≡ t = omega arith in rw e

stacked-top : (fs : List Frame) (n used : ℕ) → 0 < n → Stacked fs n used → ((slot fs (n - 1)).ranges ≤ used) × Stacked fs (n - 1) (slot fs (n - 1)).ranges
unfolding Stacked
stacked-top fs zero used h k = absurd (omega arith)
stacked-top fs (suc t) used h k = let e : suc t - 1 ≡ t = omega arith in rw e k

pop_off : (d : ℕ) (t : InlineFrame) (ts : List InlineFrame) → d ≤ t.die_depth → finish_inlines d (t ∷ ts) ≡ finish_inlines d ts
unfolding finish_inlines
pop_off d t ts h = rw (le-leb d t.die_depth h)

pop_stop : (d : ℕ) (t : InlineFrame) (ts : List InlineFrame) → t.die_depth < d → finish_inlines d (t ∷ ts) ≡ t ∷ ts
unfolding finish_inlines
pop_stop d t ts h = rw (lt-leb d t.die_depth h)

pop_none : (d : ℕ) (ts : List InlineFrame) → ts ≡ [] → ts ≡ finish_inlines d ts
unfolding finish_inlines
pop_none d ts e = rw e refl

none-used : (fs : List Frame) (used : ℕ) → Stacked fs 0 used → used ≡ 1
unfolding Stacked
none-used fs used h = h

-- ---- the room of the stack

pub lean-used : (c t : ℕ) (fs : List Frame) (n used : ℕ) → Lean c t fs n used → used ≤ c + t * n
unfolding Lean
lean-used c t fs zero used h = omega (arith, mul_comm t 0)
lean-used c t fs (suc n) used h = h.0

-- with no frame the stack has the function's range
pub lean-start : (t : ℕ) {st : Open} → Empty st → Lean 1 t st.frames st.count st.used
unfolding Lean
lean-start t E = rw (E.none, E.used) (omega arith)

-- the fields 19 of an entry that is passed make room
pub lean-more : (c c' t : ℕ) (fs : List Frame) (n used : ℕ) → c ≤ c' → Lean c t fs n used → Lean c' t fs n used
unfolding Lean
lean-more c c' t fs zero used l h = omega arith
lean-more c c' t fs (suc n) used l h = (omega (arith, h.0), lean-more c c' t fs n (slot fs n).ranges l h.1)

lean-top : (c t : ℕ) (fs : List Frame) (n used : ℕ) → 0 < n → Lean c t fs n used → Lean c t fs (n - 1) (slot fs (n - 1)).ranges
unfolding Lean
lean-top c t fs zero used h k = absurd (omega arith)
lean-top c t fs (suc n) used h k = let e : suc n - 1 ≡ n = omega arith in rw e k.1

lean-set : (c t : ℕ) (fs : List Frame) (m : ℕ) (x : Frame) (n used : ℕ) → n ≤ m → Lean c t fs n used → Lean c t (set fs m x) n used
unfolding Lean
lean-set c t fs m x zero used h k = k
lean-set c t fs m x (suc n) used h k =
    let other : slot (set fs m x) n ≡ slot fs n = get_or-set_other fs m n x (record { depth = 0; ranges = 0 }) (λ e. omega arith) in
    rw other (k.0, lean-set c t fs m x n (slot fs n).ranges (omega arith) k.1)

-- one frame more with k ranges: of the entry's own fields 19, a of them at the most, or of a list
lean-push : (c t : ℕ) (fs : List Frame) (n used a k : ℕ) (x : Frame) → slot fs n ≡ x → x.ranges ≡ used → k ≤ a + t → Lean c t fs n used → Lean (c + a) t fs (suc n) (used + k)
unfolding Lean
lean-push c t fs n used a k x at e few h =
    let m : t * suc n ≡ t * n + t * 1 = ap (λ (y : ℕ). t * y) (sym (add-one n)) ∙ mul-add t n 1 in
    rw (at, e) (omega (arith, lean-used c t fs n used h), lean-more c (c + a) t fs n used (omega arith) h)

-- of the nodes n are left, and popping makes of them what it makes of all
pub record Popping (st : Open) (d n : ℕ) (st' : Open) : Type 0 where
  pub same : st'.frames ≡ st.frames
  pub count : st'.count ≡ n
  pub few : n ≤ st.count
  pub lean : (c t : ℕ) → Lean c t st.frames st.count st.used → Lean c t st.frames n st'.used
  pub stacked : Stacked st.frames n st'.used
  pub less : st'.used ≤ st.used
  pub left : (w : List ℕ) (base : ℕ) → finish_inlines d (open_of st.frames n st'.used w base) ≡ finish_inlines d (open_in w base st)

pub popping-start : (st : Open) (d : ℕ) → Ready st → Popping st d st.count st
unfolding open_in
popping-start st d R = record {
  same = refl;
  count = refl;
  few = omega arith;
  lean = λ c t h. h;
  stacked = R.stacked;
  less = omega arith;
  left = λ w base. refl;
}

module _ {st st' : Open} {d n : ℕ} (P : Popping st d n st') where
  pub popping_next : {st'' : Open} → 0 < n → d ≤ (slot st'.frames (n - 1)).depth → st''.frames ≡ st'.frames → st''.count ≡ n - 1 → st''.used ≡ (slot st'.frames (n - 1)).ranges → Popping st d (n - 1) st''
  unfolding open_in
  popping_next h l same count used =
      let l = rw P.same at l in
      let used = rw P.same at used in
      let s = stacked-top st.frames n st'.used h P.stacked in
      record {
        same = same ∙ P.same;
        count = count;
        few = omega (arith, P.few);
        lean = λ c t k. rw used (lean-top c t st.frames n st'.used h (P.lean c t k));
        stacked = rw used s.1;
        less = omega (arith, s.0, P.less);
        left = λ w base. rw used (sym (pop_off d _ _ l) ∙ ap (finish_inlines d) (sym (open_top st.frames n st'.used w base h)) ∙ P.left w base);
      }

  module _ (R : Ready st) where
    -- the nodes that are left, as they stand
    left-open : (w : List ℕ) (base : ℕ) → open_in w base st' ≡ open_of st.frames n st'.used w base
    unfolding open_in
    left-open w base = rw (P.same, P.count) refl

    popped : ((w : List ℕ) (base : ℕ) → open_of st.frames n st'.used w base ≡ finish_inlines d (open_of st.frames n st'.used w base)) → Popped st st' d
    popped stay = record {
      ready = record { few = omega (arith, P.few, P.count, R.few); full = rw P.same R.full; stacked = rw (P.same, P.count) P.stacked };
      frames = λ w base. left-open w base ∙ stay w base ∙ P.left w base;
      fewer = omega (arith, P.few, P.count);
      used = P.less;
      lean = λ c t h. rw (P.same, P.count) (P.lean c t h);
    }

    pub popping_stop : 0 < n → (slot st'.frames (n - 1)).depth < d → Popped st st' d
    popping_stop h l = let l = rw P.same at l in popped (λ w base. open_top st.frames n st'.used w base h ∙ sym (pop_stop d _ _ l) ∙ ap (finish_inlines d) (sym (open_top st.frames n st'.used w base h)))

    pub popping_end : n ≤ 0 → Popped st st' d
    popping_end h = popped (λ w base. pop_none d _ (none_open st.frames n st'.used w base (omega arith)))

-- ---- the innermost node's ranges

module _ (st : Open) (R : Ready st) where
  none-top : st.count ≡ 0 → Top st 0
  unfolding open_in
  none-top h = record {
    within = omega arith;
    ranges = λ f w base e.
        ap (parent_ranges f) (none_open st.frames st.count st.used w base h)
        ∙ sym (ap (λ (p : ℕ). ranges_at w p (st.used - 0)) (let z : base + 0 * 16 ≡ base = omega arith in z) ∙ ap (ranges_at w base) (one h) ∙ e);
  }
    where
      one : st.count ≡ 0 → st.used - 0 ≡ 1
      one h = omega (arith, none-used st.frames st.used (rw h at R.stacked))

  some-top : 0 < st.count → Top st (slot st.frames (st.count - 1)).ranges
  unfolding open_in
  some-top h = record {
    within = (stacked-top st.frames st.count st.used h R.stacked).0;
    ranges = λ f w base e. ap (parent_ranges f) (open_top st.frames st.count st.used w base h);
  }

  pub top-none : {from : ℕ} → st.count ≤ 0 → from ≡ 0 → Top st from
  top-none h e = rw e (none-top (omega arith))

  pub top-some : {from : ℕ} → 0 < st.count → from ≡ (slot st.frames (st.count - 1)).ranges → Top st from
  top-some h e = rw e (some-top h)

-- ---- pushing

-- what is known of one frame more
pub record Pushed (st st' : Open) (d k : ℕ) : Type 0 where
  pub ready : Ready st'
  pub frames : (w : List ℕ) (base : ℕ) → open_in w base st' ≡ record { die_depth = d; ranges = ranges_at w (base + st.used * 16) k } ∷ open_in w base st
  pub count : st'.count ≡ st.count + 1
  pub used : st'.used ≡ st.used + k
  pub lean : (c t a : ℕ) → k ≤ a + t → Lean c t st.frames st.count st.used → Lean (c + a) t st'.frames st'.count st'.used

-- one frame more, x, whose place is `used`
stacked-push : (fs : List Frame) (n used k : ℕ) (x : Frame) → slot fs n ≡ x → Stacked fs n used → x.ranges ≡ used → Stacked fs (suc n) (used + k)
unfolding Stacked
stacked-push fs n used k x at s e = rw (at, e) (omega arith, s)

pub open_push : (fs : List Frame) (n used k : ℕ) (x : Frame) → slot fs n ≡ x → x.ranges ≡ used → (w : List ℕ) (base : ℕ)
    → open_of fs (suc n) (used + k) w base ≡ record { die_depth = x.depth; ranges = ranges_at w (base + used * 16) k } ∷ open_of fs n used w base
unfolding open_of
open_push fs n used k x at e w base = let z : used + k - used ≡ k = omega arith in rw (at, e, z)

pub pushed_is : (st : Open) (d k : ℕ) → Ready st → st.count < 256 → Pushed st (grown st d k) d k
unfolding open_in
pushed_is st d k R h =
    let x : Frame = record { depth = d; ranges = st.used } in
    let at : slot (set st.frames st.count x) st.count ≡ x = get_or-set_same st.frames st.count x (record { depth = 0; ranges = 0 }) (omega (arith, R.full)) in
    record {
      ready = record {
        few = omega arith;
        full = length-set st.frames st.count x ∙ R.full;
        stacked = rw (add-one st.count) (stacked-push (set st.frames st.count x) st.count st.used k x at (stacked-set st.frames st.count x st.count st.used (omega arith) R.stacked) refl);
      };
      frames = λ w base. rw (add-one st.count) (open_push (set st.frames st.count x) st.count st.used k x at refl w base
          ∙ ap (λ (l : List InlineFrame). record { die_depth = d; ranges = ranges_at w (base + st.used * 16) k } ∷ l) (open_set st.frames st.count x st.count st.used w base (omega arith)));
      count = refl;
      used = refl;
      lean = λ c t a few l. rw (add-one st.count) (lean-push c t (set st.frames st.count x) st.count st.used a k x at refl few (lean-set c t st.frames st.count x st.count st.used (omega arith) l));
    }
