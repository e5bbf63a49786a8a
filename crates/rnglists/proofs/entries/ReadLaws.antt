-- Reading an entry: the branches of the code, each with the definition's.
use mathlib.Core.Path.{◌≡◌, refl, sym, ◌∙◌}
use mathlib.Core.List.{List}
use Prim.Native.Nat.{ℕ, ◌+◌, ◌-◌, ◌≤◌, ◌<◌}
use native.Mathlib.Omega.{arith}
use borrow.Author.Tests.{ne_eqb, le-leb, lt-leb}
use lib.ListN.{length, get_or, length-drop, drop_of_length-le}
use lib.Seq.{drop-drop}
use Rattle.std.specs.Prelude.{Result, Ok, Err}
use Rattle.tlv.specs.Outcome.{◌>>=◌}
use Rattle.tlv.specs.declared.refusal.Refusal.{Refusal}
use Rattle.tlv.specs.Bytes.{le_at}
use Rattle.rnglists.specs.declared.entries.EntryRead.{EntryRead}
use Rattle.rnglists.specs.declared.entries.ListEntry.{ListEntry}
use Rattle.line_program.specs.declared.operand.Operand.{Operand}
use Rattle.line_program.specs.Scan.{Reads, OperandWithin as OperandRead}
use Rattle.line_program.proofs.UlebLaws.{drop_at}
use Rattle.rnglists.specs.Standard.{Slot, nothing, number, address, slots, slots_of}
use Rattle.rnglists.specs.RangeLists.{read_operand, read_entry}
use Rattle.rnglists.specs.Steps.{OperandWithin, ReadsOperand, kind_of, first_of, second_of, KindWithin, ReadsKind, EntryWithin, ReadsEntry}

-- ---- an address

module _ {s : List ℕ} {at size : ℕ} where
  pub address-cut : length s - at < size → ReadsOperand s at size address (Err Refusal.CutList)
  unfolding read_operand
  address-cut h = record { is = sym (rw (length-drop at s, lt-leb size (length s - at) h)); within = tt }

  pub address_is : {v : ℕ} → at ≤ length s → size ≤ length s - at → v ≡ le_at size s at
      → ReadsOperand s at size address (Ok (record { value = v; next = at + size }))
  unfolding read_operand le_at
  address_is l h e = record { is = sym (rw (length-drop at s, le-leb size (length s - at) h, e, drop-drop size at s)); within = (omega arith, omega arith) }

-- ---- the operands of a kind

pub slots0 : {k : ℕ} → k ≡ 0 → slots_of k ≡ slots nothing nothing
unfolding slots_of
slots0 e = rw e

pub slots1 : {k : ℕ} → k ≡ 1 → slots_of k ≡ slots number nothing
unfolding slots_of
slots1 e = rw e

pub slots2 : {k : ℕ} → k ≡ 2 → slots_of k ≡ slots number number
unfolding slots_of
slots2 e = rw e

pub slots3 : {k : ℕ} → k ≡ 3 → slots_of k ≡ slots number number
unfolding slots_of
slots3 e = rw e

pub slots4 : {k : ℕ} → k ≡ 4 → slots_of k ≡ slots number number
unfolding slots_of
slots4 e = rw e

pub slots5 : {k : ℕ} → k ≡ 5 → slots_of k ≡ slots address nothing
unfolding slots_of
slots5 e = rw e

pub slots6 : {k : ℕ} → k ≡ 6 → slots_of k ≡ slots address address
unfolding slots_of
slots6 e = rw e

pub slots7 : {k : ℕ} → k ≡ 7 → slots_of k ≡ slots address number
unfolding slots_of
slots7 e = rw e

module _ {s : List ℕ} {at size : ℕ} where
  pub nothing_read : at ≤ length s → ReadsOperand s at size nothing (Ok (record { value = 0; next = at }))
  unfolding read_operand
  nothing_read h = record { is = refl; within = (omega arith, h) }

  pub number_read : {r : Result Operand Refusal} → Reads s at r → ReadsOperand s at size number r
  unfolding read_operand
  number_read {r} R = record { is = R.is; within = go r R.within }
    where
      go : (r : Result Operand Refusal) → OperandRead s at r → OperandWithin s at r
      go (Ok o) w = (omega (arith, w.0), w.1)
      go (Err f) w = tt

  pub kind-unknown : {k : ℕ} → (k ≡ 0 → ⊥) → (k ≡ 1 → ⊥) → (k ≡ 2 → ⊥) → (k ≡ 3 → ⊥) → (k ≡ 4 → ⊥) → (k ≡ 5 → ⊥) → (k ≡ 6 → ⊥) → (k ≡ 7 → ⊥)
      → ReadsKind s at size k (Err Refusal.CutList)
  unfolding slots_of
  kind-unknown {k} n0 n1 n2 n3 n4 n5 n6 n7 = record {
    is = sym (rw (ne_eqb k 0 n0, ne_eqb k 1 n1, ne_eqb k 2 n2, ne_eqb k 3 n3, ne_eqb k 4 n4, ne_eqb k 5 n5, ne_eqb k 6 n6, ne_eqb k 7 n7));
    within = tt;
  }

  module _ {k : ℕ} {A B : Slot} (K : slots_of k ≡ slots A B) where
    pub first-refused : {f : Refusal} → ReadsOperand s at size A (Err f) → ReadsKind s at size k (Err f)
    unfolding ◌>>=◌
    first-refused P = record { is = sym (rw (K, ← P.is)); within = tt }

    module _ {o : Operand} (P : ReadsOperand s at size A (Ok o)) where
      pub second-refused : {f : Refusal} → ReadsOperand s o.next size B (Err f) → ReadsKind s at size k (Err f)
      unfolding ◌>>=◌
      second-refused Q = record { is = sym (rw (K, ← P.is, ← Q.is)); within = tt }

      pub operands_read : {q : Operand} {e : ListEntry} → ReadsOperand s o.next size B (Ok q) → kind_of e ≡ k → first_of e ≡ o.value → second_of e ≡ q.value
          → ReadsKind s at size k (Ok (record { entry = e; next = q.next }))
      unfolding ◌>>=◌
      operands_read Q ek ea eb = record { is = sym (rw (K, ← P.is, ← Q.is, ek, ea, eb)); within = (omega (arith, P.within, Q.within), Q.within.1) }

-- ---- an entry

module _ {s : List ℕ} {at size : ℕ} where
  pub entry-none : length s ≤ at → ReadsEntry s at size (Err Refusal.CutList)
  unfolding read_entry
  entry-none h = record { is = sym (rw (drop_of_length-le s {i = at} h)); within = tt }

  pub entry-of-kind : {k : ℕ} {r : Result EntryRead Refusal} → at < length s → k ≡ get_or s at 0 → ReadsKind s (at + 1) size k r → ReadsEntry s at size r
  unfolding read_entry
  entry-of-kind {k} {r} l g R = record { is = R.is ∙ sym (rw (drop_at s at k l g)); within = go r R.within }
    where
      go : (r : Result EntryRead Refusal) → KindWithin s (at + 1) r → EntryWithin s at r
      go (Ok e) w = (omega (arith, w.0), w.1)
      go (Err f) w = tt
