-- Answers that are the Standard's within limits go through `◌>>=◌`, a test and a map.
use mathlib.Core.Path.{◌≡◌, refl, sym, ap}
use mathlib.Core.Bool.{Bool, true, false, cond}
use mathlib.Core.Option.{Option, none, some, none-ne-some}
use Prim.Native.Nat.{ℕ, ◌≤◌}
use native.Mathlib.Omega.{arith}
use Rattle.tlv.specs.Outcome.{Outcome, refused, done, ◌>>=◌}
use Rattle.tlv.specs.Lists.{map_option}
use Rattle.line_program.specs.Standard.{and_then}
use Rattle.line_program.specs.Conforms.{Agrees}

never : {A : Type 0} {n : ℕ} {a : A} → refused n ≡ done a → ⊥
never e = let z : ◌≡◌ {A = ℕ} 0 1 = cc in omega arith

not_both : {t : Bool} → t ≡ true → t ≡ false → ⊥
not_both e f = let z : ◌≡◌ {A = ℕ} 0 1 = cc in omega arith

module _ {A : Type 0} (last : ℕ) where
  -- what both have
  pub agrees-done : (a : A) {y : Option A} {N : Type 0} → y ≡ some a → N → Agrees last (done a) y N
  agrees-done a {y} {N} e k = record {
    same = λ b. (λ q. (let r : a ≡ b = cc in rw r at e, k), λ q. cc q.0);
    beyond = λ b n f q. absurd (never (sym q));
  }

  -- a refusal: the Standard has nothing there, or it is beyond the limits
  pub agrees-refused : (n : ℕ) {y : Option A} {N : Type 0} → ((a : A) → y ≡ some a → (10 ≤ n) × (n ≤ last) × (N → ⊥)) → Agrees last (refused n) y N
  agrees-refused n {y} {N} g = record {
    same = λ a. (λ q. absurd (never q), λ q. absurd ((g a q.0).2 q.1));
    beyond = λ a m e q. let r : n ≡ m = cc in let (l, k, z) = g a e in (omega arith, omega arith);
  }

  pub agrees-none : (n : ℕ) {N : Type 0} → Agrees {A = A} last (refused n) none N
  agrees-none n = agrees-refused n (λ a e. absurd (none-ne-some a e))

  -- the same limits in other words
  pub agrees-when : {x : Outcome A} {y : Option A} {N M : Type 0} → Agrees last x y N → (N → M) → (M → N) → Agrees last x y M
  agrees-when g f b = record {
    same = λ a. (λ q. let (e, k) = (g.same a).0 q in (e, f k), λ q. (g.same a).1 (q.0, b q.1));
    beyond = g.beyond;
  }

  -- the same test on both sides
  pub agrees_if : (t : Bool) {x x' : Outcome A} {y y' : Option A} {N N' : Type 0} → (t ≡ true → Agrees last x y N) → (t ≡ false → Agrees last x' y' N')
      → Agrees last (cond t x x') (cond t y y') ((t ≡ true → N) × (t ≡ false → N'))
  agrees_if true g g' = agrees-when (g refl) (λ k. (λ e. k, λ e. absurd (not_both refl e))) (λ k. k.0 refl)
  agrees_if false g g' = agrees-when (g' refl) (λ k. (λ e. absurd (not_both e refl), λ e. k)) (λ k. k.1 refl)

-- more limits are no harm
pub agrees-wider : {A : Type 0} {last more : ℕ} {x : Outcome A} {y : Option A} {N : Type 0} → last ≤ more → Agrees last x y N → Agrees more x y N
agrees-wider l g = record { same = g.same; beyond = λ a n e q. let (k, m) = g.beyond a n e q in (k, omega arith) }

module _ {A B : Type 0} (last : ℕ) where
  -- first one thing, then another
  pub agrees-then : (x : Outcome A) (y : Option A) (f : A → Outcome B) (g : A → Option B) {N : Type 0} {M : A → Type 0}
      → Agrees last x y N → ((a : A) → Agrees last (f a) (g a) (M a)) → Agrees last (x >>= f) (and_then y g) (N × ((a : A) → y ≡ some a → M a))
  unfolding ◌>>=◌ and_then
  agrees-then (done a) none f g i j = absurd (none-ne-some a ((i.same a).0 refl).0)
  agrees-then (done a) (some b) f g {N} {M} i j =
      let (q, k) = (i.same a).0 refl in
      let r : b ≡ a = cc in
      let m : Agrees last (f a) (g a) (N × ((c : A) → some a ≡ some c → M c)) =
      agrees-when last (j a) (λ m. (k, λ c e. let s : a ≡ c = cc in rw s at m)) (λ p. p.1 a refl) in
      rw r m
  agrees-then (refused n) none f g i j = agrees-none last n
  agrees-then (refused n) (some a) f g i j =
      let (l, m) = i.beyond a n refl refl in
      agrees-refused last n (λ b e. (l, m, λ p. never ((i.same a).1 (refl, p.0))))

  pub agrees-map : (x : Outcome A) (y : Option A) (f : A → B) {N : Type 0} → Agrees last x y N → Agrees last (x >>= λ a. done (f a)) (map_option f y) N
  unfolding ◌>>=◌ map_option
  agrees-map (done a) none f i = absurd (none-ne-some a ((i.same a).0 refl).0)
  agrees-map (done a) (some b) f i = let (q, k) = (i.same a).0 refl in agrees-done last (f a) (ap (map_option f) q) k
  agrees-map (refused n) none f i = agrees-none last n
  agrees-map (refused n) (some a) f i =
      let (l, m) = i.beyond a n refl refl in
      agrees-refused last n (λ b e. (l, m, λ k. never ((i.same a).1 (refl, k))))
