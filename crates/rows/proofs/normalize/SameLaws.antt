-- When two rows are the same: the test, field by field, as the code goes.
use mathlib.Core.Path.{◌≡◌, sym, ap, ◌∙◌}
use mathlib.Core.Logic.{◌≢◌}
use mathlib.Core.Bool.{Bool, true, false, ◌&&◌}
use mathlib.Core.List.{List}
use mathlib.Core.Option.{Option}
use Prim.Native.Nat.{ℕ, ◌+◌}
use lib.Dec.{eqb}
use borrow.Author.Tests.{eq-eqb, ne_eqb}
use Rattle.tlv.specs.Bytes.{le_at}
use Rattle.buffers.specs.Table.{chunk}
use Rattle.lines.specs.Lines.{same_sequence, same_line, same_row}
use Rattle.rows.specs.Sizes.{entry_size}
use Rattle.rows.specs.Stored.{stored_sequence, entry_of, line_at}
use Rattle.rows.proofs.StoredLaws.{entry-file, entry-line, line-entry, line-sequence}

module _ (w : List ℕ) (p q : ℕ) {a b : ℕ} (ea : a ≡ le_at 4 w (p + 8)) (eb : b ≡ le_at 4 w (q + 8)) where
  pub files-differ : a ≢ b → eqb a b ≡ same_line (entry_of (chunk w p entry_size)) (entry_of (chunk w q entry_size))
  files-differ h = rw (ne_eqb a b h, ne_eqb (entry_of (chunk w p entry_size)).file.0 (entry_of (chunk w q entry_size)).file.0 (λ e. h (ea ∙ sym (entry-file w p) ∙ e ∙ entry-file w q ∙ sym eb)))

  pub lines-decide : {c d : ℕ} → a ≡ b → c ≡ le_at 4 w (p + 12) → d ≡ le_at 4 w (q + 12)
      → eqb c d ≡ same_line (entry_of (chunk w p entry_size)) (entry_of (chunk w q entry_size))
  lines-decide h ec ed =
      (λ i. eqb ((ec ∙ sym (entry-line w p)) i) ((ed ∙ sym (entry-line w q)) i))
      ∙ sym (ap (λ (t : Bool). t && eqb (entry_of (chunk w p entry_size)).line (entry_of (chunk w q entry_size)).line) (eq-eqb (entry_of (chunk w p entry_size)).file.0 (entry_of (chunk w q entry_size)).file.0 (entry-file w p ∙ sym ea ∙ h ∙ eb ∙ sym (entry-file w q))))

module _ (w : List ℕ) (p q : ℕ) {a b : ℕ} (ea : a ≡ (line_at w p).entry.address) (eb : b ≡ (line_at w q).entry.address) where
  pub addresses-differ : a ≢ b → eqb a b ≡ same_row (line_at w p) (line_at w q)
  addresses-differ h = rw (ne_eqb a b h, ne_eqb (line_at w p).entry.address (line_at w q).entry.address (λ e. h (ea ∙ e ∙ sym eb)))

  module _ {r : Bool} (same : a ≡ b) (el : r ≡ same_line (entry_of (chunk w p entry_size)) (entry_of (chunk w q entry_size))) where
    same_lines : same_line (line_at w p).entry (line_at w q).entry ≡ r
    same_lines = (λ i. same_line (line-entry w p i) (line-entry w q i)) ∙ sym el

    same_address : eqb (line_at w p).entry.address (line_at w q).entry.address ≡ true
    same_address = eq-eqb (line_at w p).entry.address (line_at w q).entry.address (sym ea ∙ same ∙ eb)

    by-rest : (r && same_sequence (line_at w p).statement_sequence (line_at w q).statement_sequence) ≡ same_row (line_at w p) (line_at w q)
    by-rest = sym (λ i. same_address i && same_lines i && same_sequence (line_at w p).statement_sequence (line_at w q).statement_sequence)

    pub lines-differ : r ≡ false → false ≡ same_row (line_at w p) (line_at w q)
    lines-differ t = sym (ap (λ (b : Bool). b && same_sequence (line_at w p).statement_sequence (line_at w q).statement_sequence) t) ∙ by-rest

    pub sequences-decide : {k : Bool} {m n : Option ℕ} → r ≡ true → m ≡ stored_sequence w (p + entry_size) → n ≡ stored_sequence w (q + entry_size)
        → k ≡ same_sequence m n → k ≡ same_row (line_at w p) (line_at w q)
    sequences-decide t em en ek =
        ek ∙ (λ i. same_sequence ((em ∙ sym (line-sequence w p)) i) ((en ∙ sym (line-sequence w q)) i))
        ∙ sym (ap (λ (b : Bool). b && same_sequence (line_at w p).statement_sequence (line_at w q).statement_sequence) t) ∙ by-rest
