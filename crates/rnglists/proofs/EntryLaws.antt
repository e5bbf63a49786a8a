-- An entry of a range list: how many bytes it takes, and which kinds give a range.
use mathlib.Core.Path.{◌≡◌, refl, sym, ap, ◌∙◌}
use mathlib.Core.Bool.{Bool, true, false, cond}
use mathlib.Core.List.{List, [], ◌∷◌}
use mathlib.Core.Option.{Option, none, some}
use Prim.Native.Nat.{ℕ, suc, ◌+◌, ◌≤◌, ◌<◌}
use native.Mathlib.Omega.{arith}
use borrow.Author.Tests.{eqb-true, eqb-false, leb-true}
use lib.Dec.{leb, eqb}
use lib.ListN.{length, drop, length-drop}
use Rattle.tlv.specs.Outcome.{Outcome, refused, done, ◌>>=◌}
use Rattle.tlv.specs.Bytes.{le_at}
use Rattle.tlv.specs.Model.{EntryRange}
use Rattle.tlv.proofs.OutcomeLaws.{done-is, refused-not, with_done}
use Rattle.tlv.proofs.TestLaws.{by_test}
use Rattle.line_program.specs.Standard.{Operand}
use Rattle.line_program.specs.Program.{uleb}
use Rattle.line_program.proofs.Operands.{operands}
use Rattle.line_program.proofs.Leb128.{shorter}
use Rattle.rnglists.specs.Standard.{Slot, nothing, number, address, Slots, slots, slots_of, RawEntry, Meaning, ends, base, bounded}
use Rattle.rnglists.specs.RangeLists.{read_operand, read_operands, read_entry, address_at, meaning_of}

-- the kinds that the Standard knows, and all others
pub data KindIs (k : ℕ) : Option Slots → Type 0 where
  kind0 : k ≡ 0 → KindIs k (slots nothing nothing)
  kind1 : k ≡ 1 → KindIs k (slots number nothing)
  kind2 : k ≡ 2 → KindIs k (slots number number)
  kind3 : k ≡ 3 → KindIs k (slots number number)
  kind4 : k ≡ 4 → KindIs k (slots number number)
  kind5 : k ≡ 5 → KindIs k (slots address nothing)
  kind6 : k ≡ 6 → KindIs k (slots address address)
  kind7 : k ≡ 7 → KindIs k (slots address number)
  other : 7 < k → KindIs k none

-- a number from n on that is not n is above it
up : (n k : ℕ) → n ≤ k → eqb k n ≡ false → suc n ≤ k
up n k h e = omega (arith, eqb-false k n e)

pub kind-is : (k : ℕ) → KindIs k (slots_of k)
unfolding slots_of
kind-is k =
    by_test (KindIs k) (eqb k 0) (λ e. kind0 (eqb-true k 0 e)) (λ e0.
    by_test (KindIs k) (eqb k 1) (λ e. kind1 (eqb-true k 1 e)) (λ e1.
    by_test (KindIs k) (eqb k 2) (λ e. kind2 (eqb-true k 2 e)) (λ e2.
    by_test (KindIs k) (eqb k 3) (λ e. kind3 (eqb-true k 3 e)) (λ e3.
    by_test (KindIs k) (eqb k 4) (λ e. kind4 (eqb-true k 4 e)) (λ e4.
    by_test (KindIs k) (eqb k 5) (λ e. kind5 (eqb-true k 5 e)) (λ e5.
    by_test (KindIs k) (eqb k 6) (λ e. kind6 (eqb-true k 6 e)) (λ e6.
    by_test (KindIs k) (eqb k 7) (λ e. kind7 (eqb-true k 7 e)) (λ e7.
    other (up 7 k (up 6 k (up 5 k (up 4 k (up 3 k (up 2 k (up 1 k (up 0 k (omega arith) e0) e1) e2) e3) e4) e5) e6) e7)))))))))

-- how many bytes an operand takes at the least
abbrev pub least : ℕ → Slot → ℕ
least size nothing = 0
least size number = 1
least size address = size

pub uleb-shorter : (s : List ℕ) (o : Operand) → uleb s ≡ done o → length o.rest < length s
uleb-shorter s o e = shorter s o (((operands s).read o).0 e).0

pub operand_size : (size : ℕ) (x : Slot) (s : List ℕ) (o : Operand) → read_operand size x s ≡ done o → length o.rest + least size x ≤ length s
unfolding read_operand
operand_size size nothing s o e = omega (arith, ap (λ (y : Operand). length y.rest) (done-is e))
operand_size size number s o e = omega (arith, uleb-shorter s o e)
operand_size size address s o e = go (leb size (length s)) refl e
  where
    go : (b : Bool) → leb size (length s) ≡ b → cond b (done (record { value = le_at size s 0; rest = drop size s })) (refused 23) ≡ done o → length o.rest + size ≤ length s
    go true h f = omega (arith, leb-true size (length s) h, ap (λ (y : Operand). length y.rest) (done-is f), length-drop size s)
    go false h f = refused-not f

-- .. and the operands of a kind; none is read of an unknown one, so that it may say anything
abbrev pub least_of : ℕ → Option Slots → ℕ
least_of size none = 2
least_of size (some x) = least size x.first + least size x.second

pub entry-size : (size : ℕ) (s : List ℕ) (e : RawEntry) → read_entry size s ≡ done e → length e.rest + 1 + least_of size (slots_of e.kind) ≤ length s
unfolding read_entry
entry-size size [] e h = refused-not h
entry-size size (k ∷ s) e h = go (slots_of k) refl h
  where
    go : (o : Option Slots) → slots_of k ≡ o → read_operands size k s o ≡ done e → length e.rest + 1 + least_of size (slots_of e.kind) ≤ length (k ∷ s)
    go none q f = refused-not f
    go (some x) q f =
        with_done (read_operand size x.first s) _ f λ a fa ga.
        with_done (read_operand size x.second a.rest) _ ga λ b fb gb.
        let kind : least_of size (slots_of e.kind) ≡ least_of size (some x) = ap (least_of size) (ap (λ (y : RawEntry). slots_of y.kind) (sym (done-is gb)) ∙ q) in
        omega (arith, kind, operand_size size x.first s a fa, operand_size size x.second a.rest b fb, ap (λ (y : RawEntry). length y.rest) (done-is gb))

-- an entry takes a byte at the least
pub entry-shorter : (size : ℕ) (s : List ℕ) (e : RawEntry) → read_entry size s ≡ done e → length e.rest < length s
entry-shorter size s e h = omega (arith, entry-size size s e h)

-- a meaning by number
abbrev sort : Outcome (Meaning EntryRange) → ℕ
sort (refused n) = 3
sort (done ends) = 0
sort (done (base b)) = 1
sort (done (bounded r)) = 2

base-unbounded : (o : Outcome ℕ) (r : EntryRange) {A : Type 0} → (o >>= λ x. done (base x)) ≡ done (bounded r) → A
unfolding ◌>>=◌
base-unbounded (refused n) r e = refused-not e
base-unbounded (done x) r e = absurd (omega (arith, ap sort e))

-- a range takes three bytes at the least
pub bounded-size : (size : ℕ) (table : List ℕ) (from : ℕ) (s : List ℕ) (e : RawEntry) (r : EntryRange) → 1 ≤ size → read_entry size s ≡ done e → meaning_of size table from e ≡ done (bounded r)
    → length e.rest + 3 ≤ length s
unfolding meaning_of
bounded-size size table from s e r h f g = go (slots_of e.kind) (kind-is e.kind) (entry-size size s e f)
  where
    go : (o : Option Slots) → KindIs e.kind o → length e.rest + 1 + least_of size o ≤ length s → length e.rest + 3 ≤ length s
    go o (kind0 k) l = absurd (omega (arith, ap sort (rw k at g)))
    go o (kind1 k) l = base-unbounded (address_at size table e.first) r (rw k at g)
    go o (kind2 k) l = omega arith
    go o (kind3 k) l = omega arith
    go o (kind4 k) l = omega arith
    go o (kind5 k) l = absurd (omega (arith, ap sort (rw k at g)))
    go o (kind6 k) l = omega arith
    go o (kind7 k) l = omega arith
    go o (other k) l = omega arith
