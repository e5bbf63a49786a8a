-- The conversion of rows only appends warnings, whatever stands before them.
use mathlib.Core.Path.{◌≡◌, refl, ap, ◌∙◌}
use mathlib.Core.Bool.{Bool, true, false, cond}
use mathlib.Core.List.{List, [], ◌∷◌, ◌++◌, append_assoc}
use mathlib.Core.Option.{Option, none, some}
use Prim.Native.Nat.{ℕ, ◌^◌}
use lib.Dec.{ltb}
use Rattle.tlv.specs.declared.model.FileIndex.{FileIndex}
use Rattle.tlv.specs.Outcome.{Outcome, refused, done, ◌>>=◌}
use Rattle.tlv.specs.Lists.{at}
use Rattle.tlv.specs.Model.{CompilationUnit, LineHeader, HeaderFile}
use Rattle.buffers.specs.Output.{Warning, about, unrepresentable_line}
use Rattle.lines.specs.Files.{FileTable, Interned, intern_file, get, header_file}
use Rattle.lines.specs.Lines.{RawLine, SequencedLine, Converted, with_warning, with_line, convert_line, convert_interned, convert_looked_up, convert_known, convert_row, convert_rows}

-- ws before c's warnings
abbrev pub after : List Warning → Converted → Converted
after ws c = record { table = c.table; indices = c.indices; lines = c.lines; warnings = ws ++ c.warnings }

-- the same of an outcome
abbrev then_after : List Warning → Outcome Converted → Outcome Converted
then_after ws x = x >>= λ d. done (after ws d)

after-done : (ws : List Warning) {x y : Outcome Converted} (d : Converted) → y ≡ then_after ws x → x ≡ done d → y ≡ done (after ws d)
unfolding ◌>>=◌
after-done ws d p e = p ∙ ap (then_after ws) e

after-refused : (ws : List Warning) {x y : Outcome Converted} (n : ℕ) → y ≡ then_after ws x → x ≡ refused n → y ≡ refused n
unfolding ◌>>=◌
after-refused ws n p e = p ∙ ap (then_after ws) e

after-warning : (ws : List Warning) (c : Converted) (w : Warning) → with_warning (after ws c) w ≡ after ws (with_warning c w)
after-warning ws c w = rw (append_assoc ws c.warnings (w ∷ []))

-- the warnings of two steps
after_then : (ws : List Warning) (x : Outcome Converted) (f : Converted → Outcome Converted) → ((c : Converted) → f (after ws c) ≡ then_after ws (f c))
    → (then_after ws x >>= f) ≡ then_after ws (x >>= f)
unfolding ◌>>=◌
after_then ws (refused n) f e = refl
after_then ws (done c) f e = e c

module _ (offsets : List ℕ) (r : RawLine) (ws : List Warning) where
  line_after : (file : FileIndex) (c : Converted) → convert_line offsets r file (after ws c) ≡ after ws (convert_line offsets r file c)
  unfolding convert_line
  line_after file c = go (ltb r.line (2 ^ 32))
    where
      l : SequencedLine
      l = record { entry = record { address = r.address; file = file; line = r.line; column = r.column }; statement_sequence = at offsets r.sequence }

      w : Warning
      w = about unrepresentable_line r.address r.line

      go : (b : Bool) → cond b (with_line (after ws c) l) (with_warning (after ws c) w) ≡ after ws (cond b (with_line c l) (with_warning c w))
      go true = refl
      go false = after-warning ws c w

  interned-after : (c : Converted) (table : FileTable) (number : Option FileIndex) → convert_interned offsets r (after ws c) table number ≡ after ws (convert_interned offsets r c table number)
  interned-after c table none = refl
  interned-after c table (some file) = line_after file _

  module _ (u : CompilationUnit) (h : LineHeader) where
    looked-after : (c : Converted) (f : Option HeaderFile) → convert_looked_up u h offsets r (after ws c) f ≡ then_after ws (convert_looked_up u h offsets r c f)
    unfolding ◌>>=◌
    looked-after c none = ap done (after-warning ws c _)
    looked-after c (some f) = go (intern_file u h c.table f)
      where
        go : (x : Outcome Interned) → (x >>= λ i. done (convert_interned offsets r (after ws c) i.table i.number)) ≡ then_after ws (x >>= λ i. done (convert_interned offsets r c i.table i.number))
        go (refused n) = refl
        go (done i) = ap done (interned-after c i.table i.number)

    known-after : (c : Converted) (file : Option FileIndex) → convert_known u h offsets r (after ws c) file ≡ then_after ws (convert_known u h offsets r c file)
    unfolding ◌>>=◌
    known-after c none = looked-after c (header_file u h r.file)
    known-after c (some file) = ap done (line_after file c)

module _ (u : CompilationUnit) (h : LineHeader) (offsets : List ℕ) where
  row-after : (r : RawLine) (ws : List Warning) (c : Converted) → convert_row u h offsets r (after ws c) ≡ then_after ws (convert_row u h offsets r c)
  unfolding convert_row
  row-after r ws c = known-after offsets r ws u h c (get c.indices r.file)

  rows-after : (rs : List RawLine) (ws : List Warning) (c : Converted) → convert_rows u h offsets rs (after ws c) ≡ then_after ws (convert_rows u h offsets rs c)
  unfolding convert_rows ◌>>=◌
  rows-after [] ws c = refl
  rows-after (r ∷ rs) ws c =
      ap (λ (x : Outcome Converted). x >>= convert_rows u h offsets rs) (row-after r ws c) ∙ after_then ws (convert_row u h offsets r c) (convert_rows u h offsets rs) (rows-after rs ws)

  module _ (r : RawLine) (ws : List Warning) (c : Converted) where
    pub convert_row-prefix : (d : Converted) → convert_row u h offsets r c ≡ done d → convert_row u h offsets r (after ws c) ≡ done (after ws d)
    convert_row-prefix d e = after-done ws d (row-after r ws c) e

    pub convert_row-prefix-refused : (n : ℕ) → convert_row u h offsets r c ≡ refused n → convert_row u h offsets r (after ws c) ≡ refused n
    convert_row-prefix-refused n e = after-refused ws n (row-after r ws c) e

  module _ (rs : List RawLine) (ws : List Warning) (c : Converted) where
    pub convert_rows-prefix : (d : Converted) → convert_rows u h offsets rs c ≡ done d → convert_rows u h offsets rs (after ws c) ≡ done (after ws d)
    convert_rows-prefix d e = after-done ws d (rows-after rs ws c) e

    pub convert_rows-prefix-refused : (n : ℕ) → convert_rows u h offsets rs c ≡ refused n → convert_rows u h offsets rs (after ws c) ≡ refused n
    convert_rows-prefix-refused n e = after-refused ws n (rows-after rs ws c) e
