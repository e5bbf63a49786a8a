-- Contract. What the functions of a line program promise: a place stands for the bytes from there on.
use Rattle.std.specs.Prelude.{ℕ, Result, Ok, Err, Option, Some, None, ◌+◌, ◌*◌, ◌/◌, ◌^◌, ◌≤◌, ◌<◌, ◌≡◌, true, false}
use Rattle.std.specs.Prelude.{◌-◌, List, [], ◌∷◌, length, take, drop, cond, eqb}
use Rattle.tlv.specs.Bytes.{le}
use Rattle.tlv.specs.Refusals.{number_of}
use Rattle.tlv.specs.Outcome.{Outcome, refused, done, ◌>>=◌}
use Rattle.tlv.specs.Model.{LineHeader}
use Rattle.buffers.specs.Table.{records, Kept}
use Rattle.line_program.specs.declared.operand.Operand.{Operand}
use Rattle.line_program.specs.declared.operand.Skipped.{Skipped}
use Rattle.line_program.specs.declared.lines.Extended.{Extended}
use Rattle.tlv.specs.declared.refusal.Refusal.{Refusal}
use Rattle.line_program.specs.declared.lines.Header.{Header}
use Rattle.line_program.specs.Standard.{Operand as Number, OperandKind, Passed}
use Rattle.line_program.specs.Program.{uleb, operand_kinds, take_line_bytes}

-- ---- an operand

-- what an operand that the code hands out means
abbrev pub operand_of : List ℕ → Result Operand Refusal → Outcome Number
operand_of s (Ok o) = done (record { value = o.value; rest = drop o.next s })
operand_of s (Err e) = refused (number_of e)

abbrev pub OperandWithin : List ℕ → ℕ → Result Operand Refusal → Type 0
OperandWithin s at (Ok o) = (at < o.next) × (o.next ≤ length s)
OperandWithin s at (Err e) = Unit

pub record Reads (s : List ℕ) (at : ℕ) (r : Result Operand Refusal) : Type 0 where
  pub is : operand_of s r ≡ uleb (drop at s)
  pub within : OperandWithin s at r

-- ---- an extended instruction

-- as it is read, once for the scan and for the machine: its opcode, the bytes of its operand, and what follows it
pub record ExtendedParts : Type 0 where
  pub opcode : ℕ
  pub operand : List ℕ
  pub rest : List ℕ

unfoldable pub extended_parts : ℕ → ℕ → List ℕ → Outcome ExtendedParts
extended_parts whole n [] = refused 8
extended_parts whole n (b ∷ s) = take_line_bytes whole (n - 1) s >>= λ rest. done (record { opcode = b; operand = take (n - 1) s; rest = rest })

unfoldable pub read_extended : ℕ → List ℕ → Outcome ExtendedParts
read_extended whole s = uleb s >>= λ o. cond (eqb o.value 0) (refused 9) (extended_parts whole o.value o.rest)

-- what one that the code hands out means
abbrev pub extended_in : List ℕ → Result Extended Refusal → Outcome ExtendedParts
extended_in s (Ok x) = done (record { opcode = x.opcode; operand = x.operand.now; rest = drop x.next s })
extended_in s (Err e) = refused (number_of e)

abbrev pub ExtendedWithin : List ℕ → ℕ → Result Extended Refusal → Type 0
ExtendedWithin s at (Ok x) = (at + 2 + length x.operand.now ≤ x.next) × (x.next ≤ length s)
ExtendedWithin s at (Err e) = Unit {0}

pub record ReadsExtended (s : List ℕ) (at : ℕ) (r : Result Extended Refusal) : Type 0 where
  pub is : extended_in s r ≡ read_extended (length s) (drop at s)
  pub within : ExtendedWithin s at r

-- ---- an instruction that is passed over

-- operands that are passed over end no sequence
abbrev pub over : Outcome (List ℕ) → Outcome Passed
over o = o >>= λ rest. done (record { ends = false; rest = rest })

-- the operands of an opcode: the lengths tell them, whatever the base
abbrev pub kinds_by : List ℕ → ℕ → List OperandKind
kinds_by lengths o = operand_kinds (record { base = 0; lengths = lengths }) o

-- what a place that the code passed on to means
abbrev pub rest_of : List ℕ → Result ℕ Refusal → Outcome (List ℕ)
rest_of s (Ok next) = done (drop next s)
rest_of s (Err e) = refused (number_of e)

abbrev pub SkipWithin : List ℕ → ℕ → Result ℕ Refusal → Type 0
SkipWithin s at (Ok next) = (at ≤ next) × (next ≤ length s)
SkipWithin s at (Err e) = Unit

-- r is what o says of the bytes of s from `at` on, of which it ends no sequence
pub record SkipsTo (s : List ℕ) (at : ℕ) (r : Result ℕ Refusal) (o : Outcome (List ℕ)) : Type 0 where
  pub is : rest_of s r ≡ o
  pub within : SkipWithin s at r

-- what a skipped instruction that the code hands out means
abbrev pub passed_of : List ℕ → Result Skipped Refusal → Outcome Passed
passed_of s (Ok (Skipped.To next)) = done (record { ends = false; rest = drop next s })
passed_of s (Ok (Skipped.Ended next)) = done (record { ends = true; rest = drop next s })
passed_of s (Err e) = refused (number_of e)

abbrev pub PassedWithin : List ℕ → ℕ → Result Skipped Refusal → Type 0
PassedWithin s at (Ok (Skipped.To next)) = (at ≤ next) × (next ≤ length s)
PassedWithin s at (Ok (Skipped.Ended next)) = (at + 2 ≤ next) × (next ≤ length s)
PassedWithin s at (Err e) = Unit

-- r is what o says of the bytes of s from `at` on
pub record Passes (s : List ℕ) (at : ℕ) (r : Result Skipped Refusal) (o : Outcome Passed) : Type 0 where
  pub is : passed_of s r ≡ o
  pub within : PassedWithin s at r

-- ---- sequences

-- bytes of an offset in the table, and the fewest bytes of a program that end a sequence
abbrev pub offset_record : ℕ
offset_record = 8

abbrev pub sequence_least : ℕ
sequence_least = 3

-- the table of n offsets
abbrev pub offsets_at : List ℕ → ℕ → ℕ → List ℕ
offsets_at w base n = records le offset_record w base n

abbrev pub offsets_of : List ℕ → ℕ → Result ℕ Refusal → Outcome (List ℕ)
offsets_of w base (Ok n) = done (offsets_at w base n)
offsets_of w base (Err e) = refused (number_of e)

abbrev pub CountWithin : List ℕ → Result ℕ Refusal → Type 0
CountWithin s (Ok n) = 3 * n ≤ length s
CountWithin s (Err e) = Unit

-- the sequences of o, of a program s, stand from base on, and nothing else was written but what the room is for
pub record Scanned (s w w' : List ℕ) (base : ℕ) (r : Result ℕ Refusal) (o : Outcome (List ℕ)) : Type 0 where
  pub is : offsets_of w' base r ≡ o
  pub within : CountWithin s r
  pub rest : Kept w w' base (length s / sequence_least * offset_record)

-- ---- the place of a program

-- a header that gives no opcode a length
abbrev pub header_at : ℕ → ℕ → ℕ → ℕ → LineHeader
header_at offset header_length version word_size = record {
  offset = offset;
  header_length = header_length;
  version = version;
  word_size = word_size;
  opcode_base = 0;
  opcode_lengths = [];
}

-- a header with its opcode lengths
abbrev pub header_with : Header → List ℕ → LineHeader
header_with h lengths = record {
  offset = h.offset;
  header_length = h.header_length;
  version = h.version;
  word_size = h.word_size;
  opcode_base = h.opcode_base;
  opcode_lengths = lengths;
}

-- the number n, where it is one of 64 bits
abbrev pub OffsetIs : Option ℕ → ℕ → Type 0
OffsetIs (Some a) n = (a ≡ n) × (n < 2 ^ 64)
OffsetIs None n = 2 ^ 64 ≤ n
