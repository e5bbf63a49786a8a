-- An input's units and entries stand in tables, one behind the other.
use mathlib.Core.Path.{◌≡◌, ◌∙◌}
use mathlib.Core.Logic.{inl}
use mathlib.Core.List.{List, [], ◌∷◌}
use Prim.Native.Nat.{ℕ, ◌+◌, ◌*◌, ◌≤◌}
use native.Mathlib.Omega.{arith}
use lib.ListN.{length}
use Rattle.tlv.specs.Fields.{fields}
use Rattle.tlv.specs.Checked.{Accepted}
use Rattle.buffers.specs.Table.{KeptBut}
use Rattle.buffers.proofs.TableLaws.{but_of, but_trans, here, there}
use Rattle.buffers.proofs.RecordLaws.{records-kept}
use Rattle.access.specs.Places.{unit_places}
use Rattle.access.specs.Units.{unit_of24, IndexedUnits}
use Rattle.access.specs.Index.{Indexed}
use Rattle.access.proofs.IndexLaws.{index-length}
use Rattle.references.specs.declared.tables.Index.{Index}
use Rattle.dies.specs.Details.{entry_count}
use Rattle.dwarf.specs.Tables.{IndexesInput}

module _ {s w w₁ w₂ : List ℕ} {units entries : ℕ} (r : Index) (A : Accepted s) (below : units + 24 * length (unit_places 0 (fields s)) ≤ entries)
    (room : entries + 16 * entry_count s ≤ length w) (U : IndexedUnits s w w₁ units r.units.count) (E : Indexed s w₁ w₂ entries r.entries.count) where
  entries-are : r.entries.count ≡ entry_count s
  entries-are = E.count ∙ index-length 0 0 0 (fields s)

  size : length w₂ ≡ length w
  size = E.size ∙ U.size

  rest : KeptBut w w₂ ((units, 24 * length (unit_places 0 (fields s))) ∷ (entries, 16 * entry_count s) ∷ [])
  rest = but_trans (but_of U.rest (here (omega arith) (omega (arith, U.count)))) (but_of E.rest (there (here (omega arith) (omega (arith, entries-are)))))

  pub indexes-input : r.units.base ≡ units → r.entries.base ≡ entries → IndexesInput s w w₂ units entries r
  indexes-input eu ee = record {
    here = record {
      index = record {
        number = A.number;
        accepted = A.is;
        units = rw eu (records-kept unit_of24 24 units r.units.count E.rest (inl (omega (arith, U.count))) ∙ U.table);
        entries = rw ee E.table;
        units-within = omega (arith, eu, U.count, size);
        entries-within = omega (arith, ee, entries-are, size);
      };
      units-at = eu;
      entries_at = ee;
      unit-count = U.count;
      entry-count = entries-are;
    };
    rest = rest;
  }
