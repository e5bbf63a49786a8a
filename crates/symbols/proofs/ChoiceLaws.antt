-- Which symbols become records, in the request's own words; and that none goes without an answer.
use mathlib.Core.Path.{◌≡◌, refl, sym, ap, subst, ◌∙◌}
use mathlib.Core.Bool.{Bool, true, false, cond, ◌||◌, true≢false}
use mathlib.Core.Logic.{◌⊎◌, inl, inr, ◌≢◌}
use mathlib.Core.List.{List, [], ◌∷◌, ◌++◌, map, append_assoc}
use Prim.Native.Nat.{ℕ, zero, suc, ◌+◌, ◌<◌}
use native.Mathlib.Omega.{arith}
use lib.Dec.{eqb}
use borrow.Author.Tests.{eqb-true}
use Rattle.tlv.specs.declared.model.AddressRange.{AddressRange}
use Rattle.tlv.specs.Lists.{All, exists, is_empty}
use Rattle.tlv.specs.Bytes.{le_at}
use Rattle.imports.specs.Ranges.{Holds}
use Rattle.lookup.specs.Lookup.{holds}
use Rattle.lookup.proofs.DemandLaws.{some_holds}
use Rattle.symbols.specs.Symbols.{Symbol, symbol_of, passed_over, joining}
use Rattle.symbols.specs.Means.{Passed, Becomes, no_more, passed, held, becomes, Choosing, Covering}
use Rattle.symbols.proofs.JoinWalkLaws.{passed-size, passed-name, not-passed}
use Rattle.symbols.proofs.SoughtLaws.{exists-holds}
use Rattle.symbols.proofs.ExtentLaws.{held-left, held-right}

-- ---- tests and statements

passed-so : (s : Symbol) → Passed s → passed_over s ≡ true
passed-so s (inl e) = passed-size s e
passed-so s (inr e) = passed-name s e

passed_is : (s : Symbol) → passed_over s ≡ true → Passed s
unfolding passed_over
passed_is s e = go (eqb s.range.start s.range.end) refl s.name refl e
  where
    go : (b : Bool) → eqb s.range.start s.range.end ≡ b → (l : List ℕ) → s.name ≡ l → (b || is_empty l) ≡ true → Passed s
    go true h l k q = inl (eqb-true s.range.start s.range.end h)
    go false h [] k q = inr k
    go false h (x ∷ l) k q = absurd (true≢false (sym q))

passed-not : (s : Symbol) → passed_over s ≡ false → ¬ Passed s
passed-not s e p = true≢false (sym (passed-so s p) ∙ e)

holds_not : (a : ℕ) (rs : List AddressRange) → exists (holds a) rs ≡ false → ¬ Holds rs a
holds_not a rs e h = true≢false (sym (exists-holds a rs h) ∙ e)

not-holds : (a : ℕ) (rs : List AddressRange) → ¬ Holds rs a → exists (holds a) rs ≡ false
not-holds a rs n = go (exists (holds a) rs) refl
  where
    go : (b : Bool) → exists (holds a) rs ≡ b → b ≡ false
    go true e = absurd (n (some_holds a rs e))
    go false e = refl

-- ---- one symbol

module _ (rs : List AddressRange) (s : Symbol) (ss : List Symbol) where
  joining-passed : Passed s → joining rs (s ∷ ss) ≡ joining rs ss
  unfolding joining
  joining-passed p = rw (passed-so s p)

  joining-held : Holds rs s.range.start → joining rs (s ∷ ss) ≡ joining rs ss
  unfolding joining
  joining-held h = rw (exists-holds s.range.start rs h) (go (passed_over s))
    where
      go : (b : Bool) → cond (b || true) (joining rs ss) (s ∷ joining (rs ++ (s.range ∷ [])) ss) ≡ joining rs ss
      go true = refl
      go false = refl

  joining-this : ¬ Passed s → ¬ Holds rs s.range.start → joining rs (s ∷ ss) ≡ s ∷ joining (rs ++ (s.range ∷ [])) ss
  unfolding joining
  joining-this p h = rw (not-passed s (λ e. p (inl e)) (λ e. p (inr e)), not-holds s.range.start rs h)

-- ---- the list

chosen : {rs : List AddressRange} {ss js : List Symbol} → Becomes rs ss js → js ≡ joining rs ss
unfolding joining
chosen no_more = refl
chosen (passed {rs = rs} {s = s} {ss = ss} p b) = chosen b ∙ sym (joining-passed rs s ss p)
chosen (held {rs = rs} {s = s} {ss = ss} h b) = chosen b ∙ sym (joining-held rs s ss h)
chosen (becomes {rs = rs} {s = s} {ss = ss} p h b) = ap (λ (l : List Symbol). s ∷ l) (chosen b) ∙ sym (joining-this rs s ss p h)

chooses : (rs : List AddressRange) (ss : List Symbol) → Becomes rs ss (joining rs ss)
unfolding joining
chooses rs [] = no_more
chooses rs (s ∷ ss) =
    go (passed_over s) refl (exists (holds s.range.start) rs) refl (chooses rs ss) (chooses (rs ++ (s.range ∷ [])) ss)
  where
    go : (b : Bool) → passed_over s ≡ b → (c : Bool) → exists (holds s.range.start) rs ≡ c → Becomes rs ss (joining rs ss)
        → Becomes (rs ++ (s.range ∷ [])) ss (joining (rs ++ (s.range ∷ [])) ss)
        → Becomes rs (s ∷ ss) (cond (b || c) (joining rs ss) (s ∷ joining (rs ++ (s.range ∷ [])) ss))
    go true p c h x y = passed (passed_is s p) x
    go false p true h x y = held (some_holds s.range.start rs h) x
    go false p false h x y = becomes (passed-not s p) (holds_not s.range.start rs h) y

pub choosing : Choosing
choosing rs ss js = (λ b. chosen b, λ e. subst (λ (l : List Symbol). Becomes rs ss l) (sym e) (chooses rs ss))

-- ---- no symbol goes without an answer

abbrev Covered : List AddressRange → List Symbol → List ℕ → Type 0
Covered rs js p = Passed (symbol_of p) ⊎ Holds (rs ++ map (λ (s : Symbol). s.range) js) (symbol_of p).range.start

-- a symbol that is not passed over has an address
filled : (p : List ℕ) → passed_over (symbol_of p) ≡ false → (symbol_of p).range.start < (symbol_of p).range.end
unfolding symbol_of
filled p e = positive (le_at 8 p 8) (λ z. passed-not (symbol_of p) e (inl (sized z)))
  where
    sized : le_at 8 p 8 ≡ 0 → le_at 8 p 0 ≡ le_at 8 p 0 + le_at 8 p 8
    sized z = omega arith

    positive : (n : ℕ) → n ≢ 0 → le_at 8 p 0 < le_at 8 p 0 + n
    positive zero h = absurd (h refl)
    positive (suc n) h = omega arith

module _ (rs : List AddressRange) (r : AddressRange) (js : List Symbol) (s : Symbol) (is : s.range ≡ r) where
  further : (ps : List (List ℕ)) → All (Covered (rs ++ (r ∷ [])) js) ps → All (Covered rs (s ∷ js)) ps
  further [] h = tt
  further (p ∷ ps) h = (go h.0, further ps h.1)
    where
      go : Covered (rs ++ (r ∷ [])) js p → Covered rs (s ∷ js) p
      go (inl q) = inl q
      go (inr q) = inr (rw is (subst (λ (l : List AddressRange). Holds l (symbol_of p).range.start)
          (append_assoc rs (r ∷ []) (map (λ (x : Symbol). x.range) js)) q))

pub covering : Covering
unfolding joining
covering rs [] = tt
covering rs (p ∷ ps) =
    go (passed_over (symbol_of p)) refl (exists (holds (symbol_of p).range.start) rs) refl (covering rs ps)
    (covering (rs ++ ((symbol_of p).range ∷ [])) ps)
  where
    go : (b : Bool) → passed_over (symbol_of p) ≡ b → (c : Bool) → exists (holds (symbol_of p).range.start) rs ≡ c
        → All (Covered rs (joining rs (map symbol_of ps))) ps
        → All (Covered (rs ++ ((symbol_of p).range ∷ [])) (joining (rs ++ ((symbol_of p).range ∷ [])) (map symbol_of ps))) ps
        → All (Covered rs (cond (b || c) (joining rs (map symbol_of ps))
        (symbol_of p ∷ joining (rs ++ ((symbol_of p).range ∷ [])) (map symbol_of ps)))) (p ∷ ps)
    go true e c h x y = (inl (passed_is (symbol_of p) e), x)
    go false e true h x y = (
      inr (held-left (symbol_of p).range.start rs (map (λ (s : Symbol). s.range) (joining rs (map symbol_of ps)))
          (some_holds (symbol_of p).range.start rs h)),
      x,
    )
    go false e false h x y = (
      inr (held-right (symbol_of p).range.start rs
          ((symbol_of p).range ∷ map (λ (s : Symbol). s.range) (joining (rs ++ ((symbol_of p).range ∷ [])) (map symbol_of ps)))
          (inl (omega arith, filled p e))),
      further rs (symbol_of p).range (joining (rs ++ ((symbol_of p).range ∷ [])) (map symbol_of ps)) (symbol_of p) refl ps y,
    )
