-- The nearest kept ancestor of an entry is one, also by two judgements that are the same below the subprogram.
--
use mathlib.Core.Path.{◌≡◌, refl, sym, ap, subst, ◌∙◌}
use mathlib.Core.Option.{Option, some}
use mathlib.Core.List.{List}
use Prim.Native.Nat.{ℕ, ◌<◌}
use native.Mathlib.Omega.{arith}
use Rattle.tlv.specs.declared.model.AddressRange.{AddressRange}
use Rattle.imports.specs.Agree.{ParentOf, Kept, Ancestor, parent, further, Nearest, subprogram, kept-one, past_one}
use Rattle.imports.proofs.Unique.{parent-unique}

module _ (depth : ℕ → ℕ) (s : ℕ) where
  -- an entry's parent that stands after the subprogram is below it, where the entry is
  pub parent-under : {i p : ℕ} → Ancestor depth i s → ParentOf depth i p → s < p → Ancestor depth p s
  parent-under {i} {p} (parent q) r g = let z : s ≡ p = parent-unique depth q r in absurd (omega arith)
  parent-under (further q t) r g = subst (λ (x : ℕ). Ancestor depth x s) (parent-unique depth q r) t

  -- a parent after the subprogram is not the subprogram
  not_both : {A : Type 0} {i p : ℕ} → ParentOf depth i s → ParentOf depth i p → s < p → A
  not_both {p = p} a b g = let z : s ≡ p = parent-unique depth a b in absurd (omega arith)

  module _ (M N : ℕ → List AddressRange) where
    -- kept by M and by N: at the one parent of i, where the two are the same
    kept-both : {i p q : ℕ} → ((o : ℕ) → o < i → Ancestor depth o s → M o ≡ N o) → Ancestor depth i s → s < p → ParentOf depth i p → ParentOf depth i q → Kept M p → Kept N q
    kept-both {i} {p} {q} h c g a b k = subst (Kept N) (parent-unique depth a b) (λ e. k (h p a.earlier (parent-under c a g) ∙ e))

  pub nearest-same : (M N : ℕ → List AddressRange) {i : ℕ} {u v : Option ℕ} → ((p : ℕ) → p < i → Ancestor depth p s → M p ≡ N p) → Ancestor depth i s → Nearest M depth s i u → Nearest N depth s i v → u ≡ v
  nearest-same M N h c (subprogram a) (subprogram b) = refl
  nearest-same M N h c (subprogram a) (kept-one b g k) = not_both a b g
  nearest-same M N h c (subprogram a) (past_one b g k t) = not_both a b g
  nearest-same M N h c (kept-one a l m) (subprogram b) = not_both b a l
  nearest-same M N h c (kept-one a l m) (kept-one b g k) = ap some (parent-unique depth a b)
  nearest-same M N h c (kept-one a l m) (past_one b g k t) = absurd (k (kept-both M N h c l a b m))
  nearest-same M N h c (past_one a l m r) (subprogram b) = not_both b a l
  nearest-same M N h c (past_one a l m r) (kept-one b g k) = absurd (m (kept-both N M (λ p e d. sym (h p e d)) c g b a k))
  nearest-same M N h c (past_one a l m r) (past_one {up = v} b g k t) =
      nearest-same M N (λ p e. h p (omega (arith, a.earlier))) (parent-under c a l) r (subst (λ (x : ℕ). Nearest N depth s x v) (parent-unique depth b a) t)
