-- Fields that pass are at most as many as the limit says.
use mathlib.Core.Path.{◌≡◌, refl}
use mathlib.Core.List.{List, [], ◌∷◌}
use Prim.Native.Nat.{ℕ, suc, ◌+◌, ◌≤◌, ◌<◌}
use native.Mathlib.Omega.{arith}
use lib.Dec.{ltb, eqb}
use lib.ListN.{length}
use borrow.Author.Tests.{ltb-true}
use Rattle.tlv.specs.Limits.{field_limit}
use Rattle.tlv.specs.Fields.{Field, payloads}
use Rattle.tlv.specs.declared.grammar.Context.{Context}
use Rattle.tlv.specs.Grammar.{next, limited, payload_limited}
use Rattle.tlv.proofs.TestLaws.{by_test, and_left}
use Rattle.tlv.proofs.AcceptedFields.{Passed, AllPassed}

pub next-count : (c : Context) (f : Field) → (next c f).count ≡ c.count + 1
unfolding next
next-count c f = by_test Counted (eqb f.tag 0x10) (λ e. refl) (λ e. by_test Counted (eqb f.tag 0x17) (λ e. refl) (λ e. refl))
  where
    Counted : Context → Type 0
    Counted x = x.count ≡ c.count + 1

counted : (c : Context) (f : Field) → Passed c f → c.count < field_limit
unfolding limited
counted c f h = ltb-true c.count field_limit (and_left (ltb c.count field_limit) (payload_limited c f.tag f.payload) h.limit)

few-after : (c : Context) (f : Field) (fs : List Field) → Passed c f → AllPassed (next c f) fs → c.count + suc (length fs) ≤ field_limit
few-after c f [] h rest = omega (arith, counted c f h)
few-after c f (g ∷ fs) h rest = omega (arith, next-count c f, few-after (next c f) g fs rest.0 rest.1)

few : (c : Context) (fs : List Field) → AllPassed c fs → length fs ≤ field_limit
few c [] h = omega arith
few c (f ∷ fs) h = omega (arith, few-after c f fs h.0 h.1)

pub fewer : (t : ℕ) (fs : List Field) → length (payloads t fs) ≤ length fs
unfolding payloads
fewer t [] = omega arith
fewer t (f ∷ fs) =
    let l = fewer t fs in
    by_test (λ ps. length ps ≤ suc (length fs)) (eqb f.tag t) {x = f.payload ∷ payloads t fs} {y = payloads t fs} (λ e. omega arith) (λ e. omega arith)

-- the fields of a tag, among fields that pass
pub few-payloads : (t : ℕ) (c : Context) (fs : List Field) → AllPassed c fs → length (payloads t fs) ≤ field_limit
few-payloads t c fs h = omega (arith, fewer t fs, few c fs h)
