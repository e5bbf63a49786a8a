-- Answers that can be a refusal: no number is 0, what `?` hands on, and what `ok_or` makes of an answer that may be missing.
use mathlib.Core.Path.{◌≡◌, refl, sym, ap}
use Prim.Native.Nat.{ℕ}
use Rattle.std.specs.Prelude.{Option, Some, None, Result, Ok, Err, ok_or}
use Rattle.std.specs.Result.{IsErrAnd}
use native.Mathlib.Omega.{arith}
use Rattle.tlv.specs.declared.refusal.Refusal.{Refusal}
use Rattle.tlv.specs.Refusals.{number_of}

-- no refusal's number is 0
pub numbered : (e : Refusal) → number_of e ≡ 0 → ⊥
numbered Refusal.Oversize z = omega arith
numbered Refusal.Misshapen z = omega arith
numbered Refusal.PastLimit z = omega arith
numbered Refusal.NoUnit z = omega arith
numbered Refusal.ShortWork z = omega arith
numbered Refusal.Decoder z = omega arith
numbered Refusal.Cut z = omega arith
numbered Refusal.CutExtended z = omega arith
numbered Refusal.ZeroExtended z = omega arith
numbered Refusal.Overflowing z = omega arith
numbered Refusal.Overlong z = omega arith
numbered Refusal.Overflow z = omega arith
numbered Refusal.NoEntry z = omega arith
numbered Refusal.TooDeep z = omega arith
numbered Refusal.FilesFull z = omega arith
numbered Refusal.ShortRecords z = omega arith
numbered Refusal.ShortFiles z = omega arith
numbered Refusal.ShortWarnings z = omega arith
numbered Refusal.MisshapenRecords z = omega arith
numbered Refusal.NoFunction z = omega arith
numbered Refusal.LineEncoding z = omega arith
numbered Refusal.LineAddress z = omega arith
numbered Refusal.CutList z = omega arith
numbered Refusal.NoAddress z = omega arith
numbered Refusal.WideAddress z = omega arith
numbered Refusal.MisshapenSymbols z = omega arith
numbered Refusal.ShortResult z = omega arith

-- what a `?` hands on is the refusal that it met
pub handed : {T : Type 0} (r : Result T Refusal) (e : Refusal) → IsErrAnd r (λ x. x ≡ e) → r ≡ Err e
handed (Ok v) e h = absurd h
handed (Err x) e h = ap Err h

-- ---- `ok_or`

ok-err : {A : Type 0} {v : A} {e : Refusal} → ◌≡◌ {A = Result A Refusal} (Ok v) (Err e) → ⊥
ok-err h = let z : ◌≡◌ {A = ℕ} 0 1 = cc in omega arith

module _ {A : Type 0} where
  pub ok-some : (r : Option A) {v : A} (e : Refusal) → Ok v ≡ ok_or r e → r ≡ Some v
  ok-some None e h = absurd (ok-err h)
  ok-some (Some x) e h = cc

  pub err-none : (r : Option A) {e e' : Refusal} → Err e' ≡ ok_or r e → (r ≡ None) × (e' ≡ e)
  err-none None h = (refl, cc)
  err-none (Some x) h = absurd (ok-err (sym h))
