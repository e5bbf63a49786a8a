-- Over a unit too the rule leaves no choice.
use mathlib.Core.Path.{◌≡◌, refl, ap, subst, ◌∙◌}
use mathlib.Core.Option.{Option, none, some, none-ne-some}
use mathlib.Core.List.{List}
use Prim.Native.Nat.{ℕ, zero, suc, ◌<◌}
use native.Mathlib.Omega.{arith}
use Rattle.tlv.specs.declared.model.AddressRange.{AddressRange}
use Rattle.imports.specs.Agree.{TreeEntry, entry, entry_depth, against, Rule, Ancestor, Below, Nearest, subprogram, kept-one, past_one, Judged, OneJudgement}
use Rattle.imports.proofs.Unique.{rule_unique}
use Rattle.imports.proofs.NearestUnique.{parent-under, nearest-same}

module _ (depth : ℕ → ℕ) (s : ℕ) where
  module _ (M : ℕ → List AddressRange) where
    near_some : {i a : ℕ} {up : Option ℕ} → Ancestor depth i s → Nearest M depth s i up → up ≡ some a → (a < i) × Ancestor depth a s
    near_some {a = a} c (subprogram b) e = absurd (none-ne-some a e)
    near_some {i} {a} c (kept-one {p = p} b g k) e = let z : p ≡ a = cc in subst (λ (x : ℕ). (x < i) × Ancestor depth x s) z (b.earlier, parent-under depth s c b g)
    near_some c (past_one {p = p} b g k t) e = let r = near_some (parent-under depth s c b g) t e in (omega (arith, b.earlier, r.0), r.1)

module _ (f : AddressRange) (us : List TreeEntry) (s : ℕ) (M N : ℕ → List AddressRange) (j : Judged f us s M) (k : Judged f us s N) where
  same-against : (u : Option ℕ) (i : ℕ) → Ancestor (entry_depth us) i s → Nearest M (entry_depth us) s i u → ((p : ℕ) → p < i → Ancestor (entry_depth us) p s → M p ≡ N p) → against f M u ≡ against f N u
  same-against none i c t h = refl
  same-against (some a) i c t h = let r = near_some (entry_depth us) s M {a = a} c t refl in h a r.0 r.1

  judged-step : (i : ℕ) (b : Below us s i) → ((p : ℕ) → p < i → Ancestor (entry_depth us) p s → M p ≡ N p) → M i ≡ N i
  judged-step i b h =
      let t = j i b in
      let r = k i b in
      let e : t.0 ≡ r.0 = nearest-same (entry_depth us) s M N h b.1 t.1 r.1 in
      rule_unique (against f N r.0) (M i) (N i) (entry us i) (subst (λ (ps : List AddressRange). Rule ps (M i) (entry us i)) (same-against t.0 i b.1 t.1 h ∙ ap (against f N) e) t.2) r.2

  below : (n i : ℕ) → i < n → Below us s i → M i ≡ N i
  below zero i l b = absurd (omega arith)
  below (suc n) i l b = judged-step i b (λ p m c. below n p (omega arith) (omega (arith, b.0), c))

pub one-judgement : (f : AddressRange) (us : List TreeEntry) (s : ℕ) → OneJudgement f us s
one-judgement f us s M N j k i b = below f us s M N j k (suc i) i (omega arith) b
