-- Contract. Beyond the request: an index of a tray's functions, made once in a lent slice for a service that asks many addresses of one tray, and look-ups by
-- it.
--
use Rattle.std.specs.Prelude.{Result, Ok, Err, ◌⊎◌, ℕ, ◌+◌, ◌*◌, ◌≤◌, ◌<◌, ◌≡◌, ◌↔◌, Bool, true, false, cond, not, List, length, drop, replicate}
use Rattle.std.proofs.Math.Option.{some}
use Rattle.tlv.specs.Tags.{tray_function_tag}
use Rattle.tlv.specs.Outcome.{Outcome, refused, done}
use Rattle.tlv.specs.Lists.{at, take_while}
use Rattle.tlv.specs.Bytes.{le_at}
use Rattle.tlv.specs.Fields.{FieldList, end, cut, more, fields}
use Rattle.buffers.specs.Reader.{records_form}
use Rattle.buffers.specs.Table.{Kept}
use Rattle.access.specs.Places.{behind}
use Rattle.tlv.specs.declared.refusal.Refusal.{Refusal}
use Rattle.lookup.specs.declared.model.Indexed.{Indexed}
use Rattle.lookup.specs.Tray.{GroupAt, up_to_next, has_tag, fields_at, functions_at, function_range}
use Rattle.look_index.specs.declared.index.Extent.{Extent}

-- ---- what stands in an index: start, end and place of a function, 8 bytes each

abbrev pub extent_size : ℕ
extent_size = 24

-- at a place
abbrev pub extent_from : List ℕ → ℕ → Extent
extent_from w p = record { range = record { start = le_at 8 w p; end = le_at 8 w (p + 8) }; place = le_at 8 w (p + 16) }

abbrev pub extent_at : List ℕ → ℕ → Extent
extent_at w k = extent_from w (k * extent_size)

abbrev pub extent_of : GroupAt → Extent
extent_of f = record { range = function_range f; place = f.place }

-- an extent holds an address, as its function does
abbrev pub ExtentHolds : Extent → ℕ → Type 0
ExtentHolds x a = (x.range.start ≤ a) × (a < x.range.end)

-- x is one of the n extents
abbrev pub Among : List ℕ → ℕ → Extent → Type 0
Among w n x = (k : ℕ) × (k < n) × (extent_at w k ≡ x)

-- each of the n ends at or before the start of every later one
abbrev pub Rising : List ℕ → ℕ → Type 0
Rising w n = (j k : ℕ) → j < k → k < n → (extent_at w j).range.end ≤ (extent_at w k).range.start

-- the n extents are the tray's functions in its order
abbrev pub InOrder : List ℕ → List ℕ → ℕ → Type 0
InOrder tray w n = (k : ℕ) (f : GroupAt) → at (functions_at tray) k ≡ some f → extent_at w k ≡ extent_of f

-- x is a function's
abbrev pub OfFunction : List ℕ → Extent → Type 0
OfFunction tray x = (k : ℕ) × (f : GroupAt) × (at (functions_at tray) k ≡ some f) × (extent_of f ≡ x)

-- an index of a tray: its functions in its order or, where that says so, in the order of their addresses and apart
pub record IndexOf (tray w : List ℕ) (n : ℕ) (rising : Bool) : Type 0 where
  pub formed : records_form 0 0 (fields tray) ≡ true
  pub all : n ≡ length (functions_at tray)
  pub room : n * extent_size ≤ length w
  pub plain : rising ≡ false → InOrder tray w n
  pub same : rising ≡ true → (x : Extent) → Among w n x ↔ OfFunction tray x
  pub order : rising ≡ true → Rising w n

-- 19 as everywhere; document 01's 5, short work, where there is no room
abbrev pub IndexRefused : List ℕ → List ℕ → Refusal → Type 0
IndexRefused tray w e =
    ((e ≡ Refusal.MisshapenRecords) × (records_form 0 0 (fields tray) ≡ false))
    ⊎ ((e ≡ Refusal.ShortWork) × (records_form 0 0 (fields tray) ≡ true) × (length w < length (functions_at tray) * extent_size))

-- the contract of `index::make_index`; a refusal fills the slice with 0
abbrev pub IndexMade : List ℕ → List ℕ → List ℕ → Result Indexed Refusal → Type 0
IndexMade tray w w' (Ok x) = IndexOf tray w' x.functions x.rising × Kept w w' 0 (x.functions * extent_size)
IndexMade tray w w' (Err e) = IndexRefused tray w e × (w' ≡ replicate (length w) 0)

pub record MakesIndex (tray w w' : List ℕ) (r : Result Indexed Refusal) : Type 0 where
  pub is : IndexMade tray w w' r

-- ---- what the functions below it promise

pub record PutExtent (w w' : List ℕ) (k : ℕ) (x : Extent) : Type 0 where
  pub value : extent_at w' k ≡ x
  pub rest : Kept w w' (k * extent_size) extent_size

-- the same extents in some order
pub record Reordered (w w' : List ℕ) (n : ℕ) : Type 0 where
  pub same : (x : Extent) → Among w' n x ↔ Among w n x
  pub rest : Kept w w' 0 (n * extent_size)

pub record Ordered (w w' : List ℕ) (n : ℕ) (r : Bool) : Type 0 where
  pub reordered : Reordered w w' n
  pub rising : r ≡ true → Rising w' n

pub record ExtentsPut (tray w w' : List ℕ) (n : ℕ) : Type 0 where
  pub all : n ≡ length (functions_at tray)
  pub laid : n * extent_size ≤ length w → InOrder tray w' n
  pub rest : Kept w w' 0 (n * extent_size)

-- ---- one function of a tray of any content

-- the function whose field stands at p, if one does and its own fields are in document 01's form; else 19
abbrev pub function_from : ℕ → FieldList → Outcome GroupAt
function_from p end = refused 19
function_from p cut = refused 19
function_from p (more f fs) =
    cond (records_form 0 0 (more f (up_to_next fs)))
    (done (record { place = p; head = f; rest = take_while (λ x. not (has_tag tray_function_tag x)) (fields_at (behind p f) fs) }))
    (refused 19)

unfoldable pub function_here : List ℕ → ℕ → Outcome GroupAt
function_here tray p = function_from p (fields (drop p tray))
