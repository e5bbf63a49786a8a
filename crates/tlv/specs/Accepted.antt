-- Theorem. What the grammar promises of a unit (document 01, "The sheet", refusals 2 and 3), as far as what is read of it goes.
use Rattle.std.specs.Prelude.{ℕ, suc, ◌+◌, ◌^◌, ◌≤◌, ◌<◌, ◌≡◌, ◌⊎◌, List, [], ◌∷◌, length}
use Rattle.std.proofs.Math.Option.{Option, none, some}
use Rattle.tlv.specs.declared.model.AddressRange.{AddressRange}
use Rattle.tlv.specs.Lists.{All}
use Rattle.tlv.specs.Bytes.{Bytes}
use Rattle.tlv.specs.Limits.{field_limit, string_limit, reason_limit, depth_limit}
use Rattle.tlv.specs.Checked.{Accepts}
use Rattle.tlv.specs.Model.{Attribute, RangeFailure, RangeList, Entry, LineRow, CompilationUnit, units}

abbrev pub Small : AddressRange → Type 0
Small r = (r.start < 2 ^ 64) × (r.end < 2 ^ 64)

abbrev pub String : List ℕ → Type 0
String s = Bytes s × (length s ≤ string_limit)

abbrev pub Given : {A : Type 0} → (A → Type 0) → Option A → Type 0
Given P none = Unit {0}
Given P (some a) = P a

pub record AttributeAccepted (a : Attribute) : Type 0 where
  pub value : a.value < 2 ^ 64
  pub text : a.kind ≡ 3 → String a.text

pub record FailureAccepted (f : RangeFailure) : Type 0 where
  pub bytes : Bytes f.reason
  pub short : length f.reason ≤ reason_limit

abbrev pub ListAccepted : RangeList → Type 0
ListAccepted l = (l.size ≡ 4) ⊎ (l.size ≡ 8)

pub record RowAccepted (r : LineRow) : Type 0 where
  pub address : r.address < 2 ^ 64
  pub file : r.file < 2 ^ 64
  pub line : r.line < 2 ^ 64
  pub column : r.column < 2 ^ 16
  pub kind : r.kind ≤ 2

-- an entry of a unit of n bytes
pub record EntryAccepted (n : ℕ) (e : Entry) : Type 0 where
  pub offset : e.offset < n
  pub depth : e.depth ≤ depth_limit
  pub attributes : All AttributeAccepted e.attributes
  pub ranges : All (λ r. Small r.range) e.ranges
  pub failure : Given FailureAccepted e.failure
  pub list : Given ListAccepted e.list

-- each entry's offset is at least o and its depth at most d, and the next one's then more, and at most one more
abbrev pub Ordered : ℕ → ℕ → List Entry → Type 0
Ordered o d [] = Unit {0}
Ordered o d (e ∷ es) = (o ≤ e.offset) × (e.depth ≤ d) × Ordered (suc e.offset) (suc e.depth) es

pub record UnitAccepted (u : CompilationUnit) : Type 0 where
  pub within : u.offset + u.length < 2 ^ 64
  pub directory : Given String u.directory
  pub text : All Small u.text
  pub directories : All (λ d. String d.path) u.directories
  pub file_zero : Given (λ f. String f.path) u.file_zero
  pub files : All (λ f. String f.path) u.files
  pub rows : All RowAccepted u.rows
  pub few : length u.rows ≤ field_limit
  pub entries : All (EntryAccepted u.length) u.entries
  pub ordered : Ordered 0 0 u.entries

abbrev pub Accepting : Type 0
Accepting = (s : List ℕ) (n : ℕ) → Bytes s → Accepts s n → All UnitAccepted (units s)
