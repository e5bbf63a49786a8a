-- Which numbers a refusal can have: the predicate, its laws for `>>=` and `cond`, and the grammar's numbers, 2 and 3.
use mathlib.Core.Path.{◌≡◌}
use mathlib.Core.Bool.{Bool, true, false, cond}
use mathlib.Core.List.{List}
use Prim.Native.Nat.{ℕ, ◌≤◌}
use native.Mathlib.Omega.{arith}
use borrow.Author.Tests.{leb-true}
use Rattle.tlv.specs.Outcome.{Outcome, refused, done, ◌>>=◌}
use Rattle.tlv.specs.Fields.{FieldList, end, cut, more, fields}
use Rattle.tlv.specs.declared.grammar.Context.{Context}
use Rattle.tlv.specs.Grammar.{start, next, check_from, check_input}

-- an outcome that is done, or a refusal by a number from `lo` to `hi`
pub data RefusesIn {A : Type 0} (lo hi : ℕ) : Outcome A → Type 0 where
  number : {n : ℕ} → lo ≤ n → n ≤ hi → RefusesIn lo hi (refused n)
  never : {a : A} → RefusesIn lo hi (done a)

module _ {A : Type 0} {lo hi : ℕ} where
  pub refuses-cond : (b : Bool) {x y : Outcome A} → RefusesIn lo hi x → RefusesIn lo hi y → RefusesIn lo hi (cond b x y)
  refuses-cond true r s = r
  refuses-cond false r s = s

  -- what the predicate says
  pub refusal-number : {n : ℕ} {x : Outcome A} → RefusesIn lo hi x → x ≡ refused n → (lo ≤ n) × (n ≤ hi)
  refusal-number {n = n} (number {n = m} p q) e = let k : m ≡ n = cc in (omega arith, omega arith)
  refusal-number never e = let z : ◌≡◌ {A = ℕ} 0 1 = cc in (omega arith, omega arith)

module _ {A B : Type 0} {lo hi : ℕ} where
  pub refuses-bind : {x : Outcome A} {f : A → Outcome B} → RefusesIn lo hi x → ((a : A) → RefusesIn lo hi (f a)) → RefusesIn lo hi (x >>= f)
  unfolding ◌>>=◌
  refuses-bind (number p q) g = number p q
  refuses-bind (never {a}) g = g a

-- `refuses-wider 7 12` takes 7 to 12 into any range that holds it
pub refuses-wider : (lo hi : ℕ) {A : Type 0} {low high : ℕ} {x : Outcome A} → low ≤ lo → hi ≤ high → RefusesIn lo hi x → RefusesIn low high x
refuses-wider lo hi below above (number {n} p q) = number {n = n} (omega arith) (omega arith)
refuses-wider lo hi below above never = never

-- the laws by which `search` follows a definition's own clauses
pub ruleset refusing = (number, never, leb-true, refuses-cond, refuses-bind)

-- ---- refusals 2 and 3

pub refuses-check : (c : Context) (fs : FieldList) → RefusesIn 2 3 (check_from c fs)
unfolding check_from
refuses-check c end = never
refuses-check c cut = search refusing
refuses-check c (more f fs) = let later = refuses-check (next c f) fs in search refusing

pub refuses-input : (program : ℕ) (s : List ℕ) → RefusesIn 2 3 (check_input program s)
unfolding check_input
refuses-input program s = refuses-check (start program) (fields s)
