-- Definition. The DWARF 5 Standard by itself, from its own text: LEB128 (7.6), the instructions of a line program (6.2.5), the path of a file (6.2.4).
-- Nothing here is taken from the Rust.
use Rattle.std.specs.Prelude.{ℕ, zero, suc, ◌+◌, ◌*◌, ◌-◌, ◌%◌, Bool, false, cond, List, [], ◌∷◌, ◌++◌, length, get_or, drop, replicate, leb, ltb, eqb}
use Rattle.std.proofs.Math.Option.{Option, none, some}
use Rattle.tlv.specs.Lists.{map_option, at}

module _ {A B : Type 0} where
  unfoldable pub and_then : Option A → (A → Option B) → Option B
  and_then none f = none
  and_then (some a) f = f a

-- ---- 7.6, variable length data

-- a number, and the bytes that follow it
pub record Operand : Type 0 where
  pub value : ℕ
  pub rest : List ℕ

-- unsigned LEB128: seven bits a byte, lowest first; the top bit is set on all bytes but the last. None: there is no last byte
unfoldable pub leb128 : List ℕ → Option Operand
leb128 [] = none
leb128 (b ∷ s) =
    cond (ltb b 128) (some (record { value = b; rest = s }))
    (map_option (λ o. record { value = b % 128 + 128 * o.value; rest = o.rest }) (leb128 s))

-- the number `up` less `down`, and the bytes that follow it
pub record SignedOperand : Type 0 where
  pub up : ℕ
  pub down : ℕ
  pub rest : List ℕ

-- signed LEB128: the same bytes; where bit 6 of the last one is set, the number is less by 2 to the power of its bits
unfoldable pub sleb128 : List ℕ → Option SignedOperand
sleb128 [] = none
sleb128 (b ∷ s) =
    cond (ltb b 128) (some (record { up = b; down = cond (leb 64 b) 128 0; rest = s }))
    (map_option (λ o. record { up = b % 128 + 128 * o.up; down = 128 * o.down; rest = o.rest }) (sleb128 s))

-- ---- 6.2.5, the line number program

-- unsigned LEB128, signed LEB128, uhalf
pub data OperandKind : Type 0 where
  unsigned signed half : OperandKind

-- 6.2.5.2: the operands of the standard opcodes 1 (copy) to 12 (set_isa); none for an opcode that the Standard does not know
unfoldable pub standard_operands : ℕ → Option (List OperandKind)
standard_operands o =
    cond (eqb o 1) (some [])
    (cond (eqb o 2) (some (unsigned ∷ []))
    (cond (eqb o 3) (some (signed ∷ []))
    (cond (eqb o 4) (some (unsigned ∷ []))
    (cond (eqb o 5) (some (unsigned ∷ []))
    (cond (eqb o 6) (some [])
    (cond (eqb o 7) (some [])
    (cond (eqb o 8) (some [])
    (cond (eqb o 9) (some (half ∷ []))
    (cond (eqb o 10) (some [])
    (cond (eqb o 11) (some [])
    (cond (eqb o 12) (some (unsigned ∷ []))
    none)))))))))))

-- what a header says of the opcodes (6.2.4): the first special one, and how many operands each standard one has
pub record Opcodes : Type 0 where
  pub base : ℕ
  pub lengths : List ℕ

-- how many operands the header declares for an opcode
abbrev pub declared : Opcodes → ℕ → ℕ
declared h o = get_or h.lengths (o - 1) 0

abbrev pub or_unknown : ℕ → Option (List OperandKind) → List OperandKind
or_unknown n none = replicate n unsigned
or_unknown n (some ks) = ks

-- the operands of an opcode below the base; one that the Standard does not know has as many LEB128 operands as the header declares (6.2.4, 12)
unfoldable pub operands_of : Opcodes → ℕ → List OperandKind
operands_of h o = or_unknown (declared h o) (standard_operands o)

-- what follows an operand
unfoldable pub after_operand : OperandKind → List ℕ → Option (List ℕ)
after_operand unsigned s = map_option (λ o. o.rest) (leb128 s)
after_operand signed s = map_option (λ o. o.rest) (sleb128 s)
after_operand half s = cond (leb 2 (length s)) (some (drop 2 s)) none

unfoldable pub after_operands : List OperandKind → List ℕ → Option (List ℕ)
after_operands [] s = some s
after_operands (k ∷ ks) s = and_then (after_operand k s) (after_operands ks)

-- an instruction that was passed over: whether it ends a sequence, and what follows it
pub record Passed : Type 0 where
  pub ends : Bool
  pub rest : List ℕ

-- 6.2.5.3: of an extended instruction's bytes the first is its opcode; 1 is end_sequence
abbrev pub extended_body : ℕ → List ℕ → Option Passed
extended_body n [] = none
extended_body n (b ∷ s) = cond (leb n (length s)) (some (record { ends = eqb b 1; rest = drop n s })) none

-- 6.2.5.3: after the zero byte a length, then as many bytes, one at the least
abbrev pub extended_of : Operand → Option Passed
extended_of o = cond (eqb o.value 0) none (extended_body (o.value - 1) o.rest)

-- 6.2.5: what follows the opcode o of an instruction is s. None: no whole instruction of the Standard stands here
unfoldable pub instruction : Opcodes → ℕ → List ℕ → Option Passed
instruction h o s =
    cond (eqb o 0) (and_then (leb128 s) extended_of)
    (cond (ltb o h.base) (map_option (λ rest. record { ends = false; rest = rest }) (after_operands (operands_of h o) s))
    (some (record { ends = false; rest = s })))

-- where the program's sequences begin (6.2.5: each ends with end_sequence): the open one at `from`; s is what is left of a program of `whole` bytes at `base`.
-- An instruction takes a byte at the least, so `whole` bounds their number
unfoldable pub sequences_within : ℕ → Opcodes → ℕ → ℕ → ℕ → List ℕ → Option (List ℕ)
sequences_within zero h base whole from s = some []
sequences_within (suc k) h base whole from [] = some []
sequences_within (suc k) h base whole from (o ∷ s) = and_then (instruction h o s) (λ t.
    let here = base + (whole - length t.rest) in
    cond t.ends
    (map_option (λ l. from ∷ l) (sequences_within k h base whole here t.rest))
    (sequences_within k h base whole from t.rest))

unfoldable pub sequences : Opcodes → ℕ → List ℕ → Option (List ℕ)
sequences h base program = sequences_within (length program) h base (length program) base program

-- ---- 6.2.4, include_directories and file_names

abbrev pub slash : ℕ
slash = 0x2f

-- a full path name begins with a slash
abbrev pub is_full : List ℕ → Bool
is_full [] = false
is_full (b ∷ s) = eqb b slash

-- "either a full path name or .. relative to" a directory
unfoldable pub relative_to : List ℕ → List ℕ → List ℕ
relative_to directory path = cond (is_full path) path (directory ++ (slash ∷ path))

-- the path of directory n. From version 5 on the table's entry 0 is "the current directory of the compilation"; before, that directory has number 0 and stands
-- in no table, whose entries number from 1. Every other is a full path or relative to it
unfoldable pub directory_path : ℕ → List ℕ → List (List ℕ) → ℕ → Option (List ℕ)
directory_path version compilation table n =
    cond (leb 5 version)
    (cond (eqb n 0) (at table 0) (and_then (at table 0) (λ first. map_option (relative_to first) (at table n))))
    (cond (eqb n 0) (some compilation) (map_option (relative_to compilation) (at table (n - 1))))

-- the path of a file by its directory number and its name: "a full or relative path name"
unfoldable pub file_path : ℕ → List ℕ → List (List ℕ) → ℕ → List ℕ → Option (List ℕ)
file_path version compilation table n name =
    cond (is_full name) (some name) (map_option (λ directory. relative_to directory name) (directory_path version compilation table n))
