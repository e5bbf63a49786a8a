-- An entry has one parent, and the rule of document 01 leaves one choice of its merged ranges.
use mathlib.Core.Path.{◌≡◌, refl, sym}
use mathlib.Core.Logic.{◌⊎◌, inl, inr}
use mathlib.Core.List.{List, [], ◌∷◌, cons≢nil}
use Prim.Native.Nat.{ℕ, ◌<◌}
use native.Mathlib.Nat.{eq-or-lt_of_le}
use Rattle.tlv.specs.declared.model.AddressRange.{AddressRange}
use Rattle.tlv.proofs.TestLaws.{by_less}
use Rattle.imports.specs.Agree.{TreeEntry, Parent, Rule}
use Rattle.imports.proofs.RangeLaws.{apart-unique}

pub parent-unique : (depth : ℕ → ℕ) {d n p q : ℕ} → Parent depth d n p → Parent depth d n q → p ≡ q
parent-unique depth {d} {n} {p} {q} a b = by_less (p ≡ q) p q (λ l. absurd (a.last q l b.earlier b.higher)) (λ l. later (eq-or-lt_of_le l))
  where
    later : (q ≡ p) ⊎ (q < p) → p ≡ q
    later (inl e) = sym e
    later (inr l) = absurd (b.last p l a.earlier a.higher)

pub rule_unique : (ps x y : List AddressRange) (e : TreeEntry) → Rule ps x e → Rule ps y e → x ≡ y
rule_unique ps [] [] e r s = refl
rule_unique ps [] (y ∷ ys) e r s = absurd (r.kept.1 (s.kept.0 cons≢nil) refl)
rule_unique ps (x ∷ xs) [] e r s = absurd (s.kept.1 (r.kept.0 cons≢nil) refl)
rule_unique ps (x ∷ xs) (y ∷ ys) e r s =
    apart-unique (x ∷ xs) (y ∷ ys) r.apart s.apart (λ a. (λ p. (s.addresses cons≢nil a).1 ((r.addresses cons≢nil a).0 p), λ p. (r.addresses cons≢nil a).1 ((s.addresses cons≢nil a).0 p)))
