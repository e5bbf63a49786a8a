-- The rows of a unit are few and fit their fields, whether they are its fields or its program's; so do its lines, which are sorted; and the numbers that these
-- are refused with.
use Rattle.std.proofs.Common.{◌≡◌, ℕ, ◌+◌, ◌^◌, ◌<◌, ◌≤◌, ◌⊎◌, List, length, subst, inl, inr, arith}
use mathlib.Core.Option.{Option, none, some}
use Rattle.tlv.specs.Outcome.{done}
use Rattle.tlv.specs.Lists.{All}
use Rattle.tlv.specs.Model.{CompilationUnit, LineHeader, LineEncoding, LineRow}
use Rattle.tlv.specs.Accepted.{RowAccepted, UnitAccepted}
use Rattle.tlv.proofs.ListLaws.{all_map}
use Rattle.tlv.proofs.OutcomeLaws.{with_done, done-is, Gives, gives, gives_of, gives-bind}
use Rattle.line_program.specs.Program.{opcodes_of}
use Rattle.lines.specs.Files.{FileTable}
use Rattle.lines.specs.Lines.{Collected}
use Rattle.lines.proofs.Bounds.{TableFits, Sorted, CollectedFits}
use Rattle.lines.proofs.LineBounds.{header-fits, header-sorted}
use Rattle.lines.proofs.Refusals.{refuses-collect}
use Rattle.machine.specs.LineRows.{rows_by, line_rows, most_by, rows_most, collect_from, collect_lines}
use Rattle.machine.specs.Bounds.{RowFits}
use Rattle.machine.proofs.NumberLaws.{Refuses, not-refused, number_in, number-among, number-bind}
use Rattle.machine.proofs.Refusals.{refuses-program_rows}
use Rattle.machine.proofs.Bounds.{bounds}

-- ---- the rows

-- as many rows as there is room for
pub rows_few : (u : CompilationUnit) (h : LineHeader) (program : List ℕ) (rows : List LineRow) → line_rows u h program ≡ done rows
    → length rows ≤ rows_most u program
unfolding line_rows rows_most
rows_few u h program rows e = go u.encoding e
  where
    go : (o : Option LineEncoding) → rows_by u h program o ≡ done rows → length rows ≤ most_by u program o
    go none q = subst (λ (l : List LineRow). length l ≤ length u.rows) (done-is q) (omega arith)
    go (some e) q = ((bounds e (opcodes_of h) program).rows rows q).few

-- no more than there are row fields and bytes of the program
pub most-few : (u : CompilationUnit) (program : List ℕ) → rows_most u program ≤ length u.rows + length program
unfolding rows_most
most-few u program = go u.encoding
  where
    go : (o : Option LineEncoding) → most_by u program o ≤ length u.rows + length program
    go none = omega arith
    go (some e) = omega arith

record RowsFit (rows : List LineRow) : Type 0 where
  fit : All RowAccepted rows
  few : length rows < 2 ^ 64

fit-accepted : (r : LineRow) → RowFits r → RowAccepted r
fit-accepted r f = record { address = f.address; file = f.file; line = f.line; column = f.column; kind = omega (arith, f.kind) }

rows_fit : (u : CompilationUnit) (h : LineHeader) (program : List ℕ) → UnitAccepted u → length u.rows < 2 ^ 64 → length program < 2 ^ 64
    → Gives RowsFit (line_rows u h program)
unfolding line_rows
rows_fit u h program accepted few short = go u.encoding
  where
    go : (o : Option LineEncoding) → Gives RowsFit (rows_by u h program o)
    go none = gives (record { fit = accepted.rows; few = few })
    go (some e) = gives_of (rows_by u h program (some e)) λ rows q.
        let b = (bounds e (opcodes_of h) program).rows rows q in
        record { fit = all_map rows fit-accepted b.fit; few = omega (arith, b.few) }

-- ---- the lines

pub gives-lines : (u : CompilationUnit) (program : List ℕ) (t : FileTable) → UnitAccepted u → length u.rows < 2 ^ 64 → length program < 2 ^ 64
    → TableFits t → Gives CollectedFits (collect_lines u program t)
unfolding collect_lines
gives-lines u program t accepted few short fits = from u.header
  where
    from : (o : Option LineHeader) → Gives CollectedFits (collect_from u program t o)
    from none = gives (record { table = fits; lines = record { entries = tt; sorted = tt; files = tt }; warnings = tt })
    from (some h) =
        gives-bind (rows_fit u h program accepted few short) λ rows r.
        header-fits u h program rows t accepted r.fit r.few short fits

-- whatever the unit
pub sorted-lines : (u : CompilationUnit) (program : List ℕ) (t : FileTable) (c : Collected) → collect_lines u program t ≡ done c → Sorted 0 c.lines.entries
unfolding collect_lines
sorted-lines u program t c q = from u.header q
  where
    from : (o : Option LineHeader) → collect_from u program t o ≡ done c → Sorted 0 c.lines.entries
    from none q = subst (λ (x : Collected). Sorted 0 x.lines.entries) (done-is q) tt
    from (some h) q = with_done (line_rows u h program) _ q λ rows _ q₁. header-sorted u h program rows t c q₁

-- ---- refusals: 6 to 15, 21 and 22

abbrev pub LineNumbers : ℕ → Type 0
LineNumbers n = ((6 ≤ n) × (n ≤ 15)) ⊎ ((21 ≤ n) × (n ≤ 22))

wider : (n : ℕ) → ((7 ≤ n) × (n ≤ 12)) ⊎ ((21 ≤ n) × (n ≤ 22)) → LineNumbers n
wider n (inl p) = inl (omega (arith, p.0), omega (arith, p.1))
wider n (inr p) = inr p

refuses-unit_rows : (u : CompilationUnit) (h : LineHeader) (program : List ℕ) → Refuses LineNumbers (line_rows u h program)
unfolding line_rows
refuses-unit_rows u h program = go u.encoding
  where
    go : (o : Option LineEncoding) → Refuses LineNumbers (rows_by u h program o)
    go none = not-refused
    go (some e) = number-among wider (refuses-program_rows e (opcodes_of h) program)

pub refuses-lines : (u : CompilationUnit) (program : List ℕ) (t : FileTable) → Refuses LineNumbers (collect_lines u program t)
unfolding collect_lines
refuses-lines u program t = from u.header
  where
    from : (o : Option LineHeader) → Refuses LineNumbers (collect_from u program t o)
    from none = not-refused
    from (some h) = number-bind (refuses-unit_rows u h program) λ rows. number_in 6 15 (λ n p q. inl (p, q)) (refuses-collect u h program rows t)
