-- `answer_all` meets its contract: each call is one more of those that are made.
use mathlib.Core.Logic.{inl, inr}
use Rattle.std.proofs.Common.{◌≡◌, refl, Result, Ok, ℕ, zero, suc, ◌+◌, ◌-◌, ◌<◌, Bool, true, false, arith, of_calls}
use Rattle.std.specs.Borrow.{MutBor}
use Rattle.std.specs.Fn.{Called, Mut}
use Rattle.streams.specs.Calls.{Says, Made}
use Rattle.streams.proofs.answer_all.Goals as goal

module _ {S : Type 0} (step : S → Bool → S → Type 0) where
  -- a call that says false is the last
  made-last : (n : ℕ) (s t : S) → 0 < n → step s false t → Made step n s t
  unfolding Made
  made-last zero s t h x = absurd (omega arith)
  made-last (suc n) s t h x = inl x

  -- one that says true goes before the others
  made-before : (n : ℕ) (s u t : S) → step s true u → Made step n u t → Made step (suc n) s t
  unfolding Made
  made-before n s u t x m = inr (u, x, m)

-- what a call gave, as the definitions say it
module _ {F R E : Type 0} {g : Mut F (MutBor R × Unit {0}) (Result Bool E × (MutBor R × Unit {0}))} {f f' : F} {p q : MutBor R} {b : Bool} where
  said : Called g f (p, tt) (Ok b, (q, tt)) f' → (v : Bool) → b ≡ v → Says g (f, p.now) v (f', q.now)
  said k v e = record { shown = p; shows = refl; left = q; called = rw e at k; leaves = refl }

pub returns-then-not-branch : goal.returns-then-not-branch
returns-then-not-branch g c =
    let more = c.loop-test.true in
    record {
      count = c.in_ok-count.count;
      between = c.next_u32.new.input;
      number = c.in_ok-count.ensures;
      last = c.next.new.self;
      calls = c.loop.invariant.left (c.next.new.self, c.next.new.arg2) (made-last _ _ _ _ (omega arith) (said c.in_ok-next.ensures false c.if-not-branch.true));
    }

pub loop-preserved : goal.loop-preserved
loop-preserved g c =
    let more = c.loop-test.true in
    let one : c.in_ok-count.count - c.loop.counter ≡ suc (c.in_ok-count.count - (c.loop.counter + 1)) = omega arith in
    record {
      callable = search of_calls parts 8;
      within = omega arith;
      left = λ t m. c.loop.invariant.left t (rw one (made-before _ _ _ _ t (said c.in_ok-next.ensures true c.if-not-branch.false) m));
    }

pub returns : goal.returns
unfolding Made
returns g c =
    let none : c.in_ok-count.count - c.loop.counter ≡ 0 = omega arith in
    record {
      count = c.in_ok-count.count;
      between = c.next_u32.new.input;
      number = c.in_ok-count.ensures;
      last = c.loop.next;
      calls = c.loop.invariant.left (c.loop.next, c.loop.input) (rw none refl);
    }
