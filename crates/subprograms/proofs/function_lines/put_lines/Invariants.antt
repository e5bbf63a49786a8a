-- `function_lines::put_lines` meets its contract. The loop's invariant: who lays the rows from here on has laid all.
use Prim.Native.Nat.{◌≤◌}
use lib.ListN.{drop}
use Rattle.buffers.proofs.BufferLaws.{Left}
use Rattle.rows.specs.Stored.{entries_of}
use Rattle.subprograms.specs.Steps.{lines_bytes}
use Rattle.subprograms.proofs.function_lines.put_lines.Given as goal

abbrev pub invariant-loop-i : goal.invariant-loop-i
invariant-loop-i l = (l.i ≤ l.rows.count) × Left l.at (lines_bytes (entries_of l.work l.rows.base l.rows.count)) l.initial.records l.place (lines_bytes (drop l.i (entries_of l.work l.rows.base l.rows.count))) l.records
