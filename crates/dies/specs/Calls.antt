-- Contract. What the code that reads a call site's address, and a call's file and line, promises.
use Rattle.std.specs.Prelude.{Option as Maybe, Some, None, Result, Ok, Err}
use Rattle.std.specs.Prelude.{◌≡◌, cond, List, ℕ, eqb}
use Rattle.std.proofs.Math.Option.{Option, none, some}
use Rattle.tlv.specs.declared.refusal.Refusal.{Refusal}
use Rattle.tlv.specs.declared.refusal.Refusal.TheVariants.{Decoder}
use Rattle.tlv.specs.Outcome.{refused, done}
use Rattle.tlv.specs.Model.{Attribute}
use Rattle.buffers.specs.Buffer.{Put}
use Rattle.buffers.specs.Output.{Warning, warnings_bytes}
use Rattle.access.specs.declared.access.Value.{Value}
use Rattle.access.specs.Places.{entry_here, unit_here}
use Rattle.lines.specs.Files.{FileIndices}
use Rattle.imports.specs.Tree.{DetailContext, call_file_of, call_line_of}
use Rattle.tlv.specs.declared.model.FileIndex.{FileIndex}
use Rattle.dies.specs.declared.calls.Warned.{Warned}

-- ---- the return address of a call site

-- the return address that an attribute is; a failed one is refused
abbrev pub address_of : Option Attribute → Result (Maybe ℕ) Refusal
address_of none = Ok None
address_of (some a) = cond (eqb a.kind 10) (Err Decoder) (cond (eqb a.kind 9) (Ok (Some a.value)) (Ok None))

-- the address that a value is
abbrev pub address_is : Value → Result (Maybe ℕ) Refusal
address_is (Value.Unsigned n) = Ok None
address_is (Value.FileNumber n) = Ok None
address_is (Value.Text start len) = Ok None
address_is (Value.UnitReference n) = Ok None
address_is (Value.SectionReference n) = Ok None
address_is (Value.SupplementaryReference n) = Ok None
address_is (Value.SectionOffset n) = Ok None
address_is (Value.LineOffset n) = Ok None
address_is (Value.Address n) = Ok (Some n)
address_is Value.Failed = Err Decoder

-- .. and where there is none
abbrev pub address_in : Maybe Value → Result (Maybe ℕ) Refusal
address_in (Some v) = address_is v
address_in None = Ok None

-- ---- a call's file and line

-- the file of the call of the entry at p, of a unit that has the map `is`; what else a context holds does not matter
pub record FileCalled (is : FileIndices) (main : List ℕ) (unit p at : ℕ) (u u' : List ℕ) (n : ℕ) (r : Warned FileIndex) : Type 0 where
  pub warnings : List Warning
  pub laid : n ≡ 0 → Put at (warnings_bytes warnings) u u' r.at
  pub ok : n ≡ 0 → (c : DetailContext) → c.file_indices ≡ is → c.unit ≡ unit_here main unit → call_file_of c (entry_here main p)
      ≡ done (record { file = r.value; warnings = warnings })
  pub no : (n ≡ 0 → ⊥) → (c : DetailContext) → c.file_indices ≡ is → c.unit ≡ unit_here main unit → call_file_of c (entry_here main p)
      ≡ refused n

-- the line
pub record LineCalled (main : List ℕ) (unit p at : ℕ) (u u' : List ℕ) (n : ℕ) (r : Warned ℕ) : Type 0 where
  pub warnings : List Warning
  pub laid : n ≡ 0 → Put at (warnings_bytes warnings) u u' r.at
  pub ok : n ≡ 0 → (c : DetailContext) → c.unit ≡ unit_here main unit → call_line_of c (entry_here main p)
      ≡ done (record { line = r.value; warnings = warnings })
  pub no : (n ≡ 0 → ⊥) → (c : DetailContext) → c.unit ≡ unit_here main unit → call_line_of c (entry_here main p) ≡ refused n
