-- Contract. What the functions of range lists promise: a place stands for the bytes from there on.
use Rattle.std.specs.Prelude.{Result, Ok, Err, Option, Some, None, ℕ, ◌+◌, ◌≤◌, ◌<◌, ◌≡◌, List, [], length, drop}
use Rattle.tlv.specs.Outcome.{Outcome, refused, done}
use Rattle.tlv.specs.Model.{EntryRange}
use Rattle.tlv.specs.declared.refusal.Refusal.{Refusal}
use Rattle.tlv.specs.Refusals.{number_of, as_outcome}
use Rattle.line_program.specs.declared.operand.Operand.{Operand}
use Rattle.line_program.specs.Scan.{operand_of}
use Rattle.rnglists.specs.declared.entries.EntryRead.{EntryRead}
use Rattle.rnglists.specs.declared.entries.ListEntry.{ListEntry}
use Rattle.rnglists.specs.declared.lists.Meant.{Meant}
use Rattle.rnglists.specs.declared.lists.ListRange.{ListRange}
use Rattle.rnglists.specs.declared.lists.ListField.{ListField}
use Rattle.rnglists.specs.Sizes.{width_of}
use Rattle.tlv.specs.Bytes.{le_at}
use Rattle.tlv.specs.Grammar.{list_base_at, list_addresses_at, list_size_at}
use Rattle.rnglists.specs.Standard.{Slot, slots_of, RawEntry, Meaning, ends, base, bounded}
use Rattle.rnglists.specs.RangeLists.{read_operand, read_operands, read_entry, address_at, largest, bounded_by, offset_pair, meaning_of}
use Rattle.rnglists.specs.RangeLists.{ListRanges, faulty, and_before, ranges_in}

-- ---- operands and entries

abbrev pub OperandWithin : List ℕ → ℕ → Result Operand Refusal → Type 0
OperandWithin s at (Ok o) = (at ≤ o.next) × (o.next ≤ length s)
OperandWithin s at (Err e) = Unit

-- r is the operand of a slot at a place
pub record ReadsOperand (s : List ℕ) (at size : ℕ) (x : Slot) (r : Result Operand Refusal) : Type 0 where
  pub is : operand_of s r ≡ read_operand size x (drop at s)
  pub within : OperandWithin s at r

-- the number of an entry's kind, and its operands, 0 for one that it has not
abbrev pub kind_of : ListEntry → ℕ
kind_of ListEntry.EndOfList = 0
kind_of (ListEntry.BaseAddressx a) = 1
kind_of (ListEntry.StartxEndx a b) = 2
kind_of (ListEntry.StartxLength a b) = 3
kind_of (ListEntry.OffsetPair a b) = 4
kind_of (ListEntry.BaseAddress a) = 5
kind_of (ListEntry.StartEnd a b) = 6
kind_of (ListEntry.StartLength a b) = 7

abbrev pub first_of : ListEntry → ℕ
first_of ListEntry.EndOfList = 0
first_of (ListEntry.BaseAddressx a) = a
first_of (ListEntry.StartxEndx a b) = a
first_of (ListEntry.StartxLength a b) = a
first_of (ListEntry.OffsetPair a b) = a
first_of (ListEntry.BaseAddress a) = a
first_of (ListEntry.StartEnd a b) = a
first_of (ListEntry.StartLength a b) = a

abbrev pub second_of : ListEntry → ℕ
second_of ListEntry.EndOfList = 0
second_of (ListEntry.BaseAddressx a) = 0
second_of (ListEntry.StartxEndx a b) = b
second_of (ListEntry.StartxLength a b) = b
second_of (ListEntry.OffsetPair a b) = b
second_of (ListEntry.BaseAddress a) = 0
second_of (ListEntry.StartEnd a b) = b
second_of (ListEntry.StartLength a b) = b

-- an entry, before the bytes that follow it
abbrev pub raw_entry : ListEntry → List ℕ → RawEntry
raw_entry e rest = record { kind = kind_of e; first = first_of e; second = second_of e; rest = rest }

abbrev pub entry_of : List ℕ → Result EntryRead Refusal → Outcome RawEntry
entry_of s (Ok e) = done (raw_entry e.entry (drop e.next s))
entry_of s (Err e) = refused (number_of e)

abbrev pub KindWithin : List ℕ → ℕ → Result EntryRead Refusal → Type 0
KindWithin s at (Ok e) = (at ≤ e.next) × (e.next ≤ length s)
KindWithin s at (Err e) = Unit

-- r is the entry of a kind whose operands begin at a place
pub record ReadsKind (s : List ℕ) (at size k : ℕ) (r : Result EntryRead Refusal) : Type 0 where
  pub is : entry_of s r ≡ read_operands size k (drop at s) (slots_of k)
  pub within : KindWithin s at r

abbrev pub EntryWithin : List ℕ → ℕ → Result EntryRead Refusal → Type 0
EntryWithin s at (Ok e) = (at < e.next) × (e.next ≤ length s)
EntryWithin s at (Err e) = Unit

pub record ReadsEntry (s : List ℕ) (at size : ℕ) (r : Result EntryRead Refusal) : Type 0 where
  pub is : entry_of s r ≡ read_entry size (drop at s)
  pub within : EntryWithin s at r

-- ---- meanings

abbrev pub meaning_given : Result Meant Refusal → Outcome (Meaning EntryRange)
meaning_given (Ok Meant.End) = done ends
meaning_given (Ok (Meant.Base b)) = done (base b)
meaning_given (Ok (Meant.Range r dead)) = done (bounded (record { range = r; tombstone = dead }))
meaning_given (Err e) = refused (number_of e)

-- r is a range from a to b, where `top` is the largest address of the size
pub record SaysBounded (top a b : ℕ) (r : Result Meant Refusal) : Type 0 where
  pub is : (size : ℕ) → top ≡ largest size → meaning_given r ≡ bounded_by size a b

-- r is the offset pair of a and b from a base address
pub record SaysPair (top from a b : ℕ) (r : Result Meant Refusal) : Type 0 where
  pub is : (size : ℕ) → top ≡ largest size → meaning_given r ≡ offset_pair size from a b

-- r is the address of an index of the table, from a place on
pub record FindsAddress (table : List ℕ) (place size i : ℕ) (r : Result ℕ Refusal) : Type 0 where
  pub is : as_outcome r ≡ address_at size (drop place table) i

-- r is what an entry says, whatever follows it
pub record Says (table : List ℕ) (place size from : ℕ) (e : ListEntry) (r : Result Meant Refusal) : Type 0 where
  pub is : meaning_given r ≡ meaning_of size (drop place table) from (raw_entry e [])

-- ---- a list, a range at a time

-- f is what the field 1f says whose payload starts at a place
pub record FieldIs (s : List ℕ) (start : ℕ) (f : ListField) : Type 0 where
  pub offset : f.offset ≡ le_at 8 s start
  pub base : f.base ≡ le_at 8 s (start + list_base_at)
  pub addresses : f.addresses ≡ le_at 8 s (start + list_addresses_at)
  pub size : width_of f.size ≡ le_at 1 s (start + list_size_at)

-- what the next range and the list behind it give
abbrev pub ranges_of : List ℕ → List ℕ → ℕ → Result (Option ListRange) Refusal → ListRanges
ranges_of s table size (Ok None) = faulty 0
ranges_of s table size (Ok (Some r)) = and_before (record { range = r.range; tombstone = r.dead }) (ranges_in size table r.base (drop r.next s))
ranges_of s table size (Err e) = faulty (number_of e)

abbrev pub NextWithin : List ℕ → ℕ → Result (Option ListRange) Refusal → Type 0
NextWithin s at (Ok None) = Unit
NextWithin s at (Ok (Some r)) = (at + 3 ≤ r.next) × (r.next ≤ length s)
NextWithin s at (Err e) = 7 ≤ number_of e

pub record NextIs (s addresses : List ℕ) (place size at from : ℕ) (r : Result (Option ListRange) Refusal) : Type 0 where
  pub is : ranges_of s (drop place addresses) size r ≡ ranges_in size (drop place addresses) from (drop at s)
  pub within : NextWithin s at r
