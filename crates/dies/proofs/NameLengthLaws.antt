-- The names that are found from an entry of an accepted sheet are short enough for an output field.
use mathlib.Core.Path.{◌≡◌}
use mathlib.Core.List.{List, [], ◌∷◌, map}
use mathlib.Core.Option.{Option, none, some}
use Prim.Native.Nat.{ℕ, ◌+◌, ◌≤◌, ◌<◌}
use native.Mathlib.Omega.{arith}
use lib.ListN.{length}
use Rattle.tlv.specs.Outcome.{done}
use Rattle.tlv.specs.Lists.{All}
use Rattle.tlv.specs.Bytes.{Bytes}
use Rattle.tlv.specs.Fields.{fields, whole_fields}
use Rattle.tlv.specs.Model.{Attribute, units}
use Rattle.tlv.specs.Accepted.{EntryAccepted, UnitAccepted}
use Rattle.tlv.proofs.ListLaws.{any_one}
use Rattle.tlv.proofs.OutcomeLaws.{given, done-is}
use Rattle.tlv.proofs.AcceptedCounts.{few-payloads}
use Rattle.tlv.proofs.AcceptedUnits.{accepting}
use Rattle.tlv.proofs.PlaceFacts.{placed-start, placed-passed}
use Rattle.access.specs.Places.{entry_here, unit_here, unit_places}
use Rattle.access.proofs.UnitPlaceLaws.{units-places}
use Rattle.references.specs.Search.{attribute, resolve_name}
use Rattle.references.specs.Tables.{EntryKnown}
use Rattle.references.specs.Names.{dwarf_of, reference_name}
use Rattle.references.proofs.NameBounds.{DwarfAccepted, gives-name, gives-reference_name}
use Rattle.references.proofs.TargetLaws.{known-unit, known-entry}
use Rattle.dies.specs.declared.details.Details.{Details}
use Rattle.dies.specs.Details.{DetailsIn, range_count}

all_back : {A B : Type 0} (P : B → Type 0) (f : A → B) (xs : List A) → All P (map f xs) → All (λ x. P (f x)) xs
all_back P f [] h = tt
all_back P f (x ∷ xs) h = (h.0, all_back P f xs h.1)

module _ {main supplementary w : List ℕ} {d : Details} {p : ℕ} (D : DetailsIn main supplementary w d) (K : EntryKnown main d.context.unit p) (b : Bytes main) (b' : Bytes supplementary) where
  main-units : All UnitAccepted (units main)
  main-units = accepting main D.tables.main-index.number b D.tables.main-index.accepted

  both : DwarfAccepted (dwarf_of main supplementary)
  both = record { main = main-units; supplementary = accepting supplementary D.tables.supplementary-index.number b' D.tables.supplementary-index.accepted }

  unit-fine : UnitAccepted (unit_here main d.context.unit)
  unit-fine =
      any_one (unit_places 0 (fields main)) (λ x at same. rw same at at)
      (all_back UnitAccepted (unit_here main) (unit_places 0 (fields main)) (rw (units-places main) at main-units))
      (known-unit D.tables.main-index.number D.tables.main-index.accepted K)

  entry-fine : EntryAccepted (unit_here main d.context.unit).length (entry_here main p)
  entry-fine =
      any_one (unit_here main d.context.unit).entries (λ x at same. rw same at at) unit-fine.entries
      (known-entry D.tables.main-index.number D.tables.main-index.accepted K)

  pub name-short : {name : List ℕ} → resolve_name (dwarf_of main supplementary) (unit_here main d.context.unit) (entry_here main p) ≡ done name → 10 + length name < 65536
  name-short e = let s = given (gives-name (dwarf_of main supplementary) both (unit_here main d.context.unit) (entry_here main p) unit-fine entry-fine) e in omega (arith, s.1)

  pub pattern-short : {name : List ℕ} (n : ℕ) → reference_name (dwarf_of main supplementary) (unit_here main d.context.unit) (entry_here main p) (attribute (entry_here main p) n) ≡ done name → 9 + length name < 65536
  pattern-short {name} n e = go (attribute (entry_here main p) n) e
    where
      go : (o : Option Attribute) → reference_name (dwarf_of main supplementary) (unit_here main d.context.unit) (entry_here main p) o ≡ done name → 9 + length name < 65536
      go none h = let z : [] ≡ name = done-is h in rw (← z) (omega arith)
      go (some a) h = let s = given (gives-reference_name (dwarf_of main supplementary) both (unit_here main d.context.unit) (entry_here main p) unit-fine entry-fine a) h in omega (arith, s.1)

-- how many ranges there can be
pub ranges-few : {main supplementary w : List ℕ} {d : Details} → DetailsIn main supplementary w d → Bytes main → range_count main ≤ 65536
ranges-few {main} D b =
    let h = placed-start main D.tables.main-index.number D.tables.main-index.accepted in
    few-payloads 0x19 h.context (whole_fields (fields main)) (placed-passed main 0 b h)
