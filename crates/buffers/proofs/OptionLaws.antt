-- A number that may be missing, and a range: as they are written and read.
use mathlib.Core.Path.{◌≡◌, refl, sym, ap, ◌∙◌}
use mathlib.Core.Logic.{inl}
use mathlib.Core.List.{List}
use mathlib.Core.Option.{none, some}
use Prim.Native.Nat.{ℕ, ◌+◌}
use native.Mathlib.Omega.{arith}
use borrow.Author.Tests.{eq-eqb, ne_eqb}
use Rattle.tlv.specs.declared.model.AddressRange.{AddressRange}
use Rattle.tlv.specs.Bytes.{le_at}
use Rattle.tlv.specs.Model.{range_of}
use Rattle.buffers.specs.Table.{chunk, Wrote, PutRange}
use Rattle.buffers.specs.Options.{option_at, PutOption}
use Rattle.buffers.proofs.ChunkLaws.{le_at-chunk, le_at-front}
use Rattle.buffers.proofs.TableLaws.{le_at-kept, kept-wide, kept_trans}

pub option_some : (k : ℕ) (w : List ℕ) (p : ℕ) {r n : ℕ} → r ≡ le_at 1 w p → r ≡ 1 → n ≡ le_at k w (p + 1) → some n ≡ option_at k w p
unfolding option_at
option_some k w p e t v = rw (eq-eqb (le_at 1 w p) 1 (sym e ∙ t)) (ap some v)

pub option_none : (k : ℕ) (w : List ℕ) (p : ℕ) {r : ℕ} → r ≡ le_at 1 w p → ((r ≡ 1) → ⊥) → none ≡ option_at k w p
unfolding option_at
option_none k w p e t = rw (ne_eqb (le_at 1 w p) 1 (λ h. t (e ∙ h)))

pub put_some : {w w₁ w₂ : List ℕ} {p k n : ℕ} → Wrote w w₁ p 1 1 → Wrote w₁ w₂ (p + 1) k n → PutOption w w₂ p k (some n)
put_some {w} {w₁} {w₂} {p} {k} {n} T N = record {
  value = sym (option_some k w₂ p (sym (le_at-kept 1 p N.rest (inl (omega arith)) ∙ T.value)) refl (sym N.value));
  rest = kept_trans (kept-wide p (1 + k) T.rest (omega arith) (omega arith)) (kept-wide p (1 + k) N.rest (omega arith) (omega arith));
}

pub put_missing : {w w₁ : List ℕ} {p : ℕ} (k : ℕ) → Wrote w w₁ p 1 0 → PutOption w w₁ p k none
put_missing {w} {w₁} {p} k T = record {
  value = sym (option_none k w₁ p (sym T.value) (λ e. (omega arith)));
  rest = kept-wide p (1 + k) T.rest (omega arith) (omega arith);
}

range-of : (w : List ℕ) (p : ℕ) → range_of (chunk w p 16) ≡ record { start = le_at 8 w p; end = le_at 8 w (p + 8) }
unfolding range_of
range-of w p = λ i. record { start = le_at-front 8 w p 16 (omega arith) i; end = le_at-chunk 8 w p 16 8 (omega arith) i }

pub put-range : {w w₁ w₂ : List ℕ} {p : ℕ} {r : AddressRange} → Wrote w w₁ p 8 r.start → Wrote w₁ w₂ (p + 8) 8 r.end → PutRange w w₂ p r
put-range {w} {w₁} {w₂} {p} {r} A B = record {
  value = range-of w₂ p ∙ (λ i. record { start = (le_at-kept 8 p B.rest (inl (omega arith)) ∙ A.value) i; end = B.value i });
  rest = kept_trans (kept-wide p 16 A.rest (omega arith) (omega arith)) (kept-wide p 16 B.rest (omega arith) (omega arith));
}
