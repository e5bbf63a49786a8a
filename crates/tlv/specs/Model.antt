-- Definition. A sheet as units and entries (document 01, "The sheet"): what the import reads of a sheet that the grammar accepts.
use Rattle.std.specs.Prelude.{ℕ, Bool, List, map, length, take, drop, eqb}
use Rattle.std.proofs.Math.Option.{Option, none, some}
use Rattle.tlv.specs.Tags.{attribute_tag, compilation_tag, directory_tag, encoding_tag, entry_tag, failure_tag, file_tag, file_zero_tag, header_tag, list_tag}
use Rattle.tlv.specs.Tags.{part_tag, range_tag, row_tag, text_tag, unit_tag}
use Rattle.tlv.specs.declared.model.AddressRange.{AddressRange}
use Rattle.tlv.specs.Lists.{map_option}
use Rattle.tlv.specs.Bytes.{le_at}
use Rattle.tlv.specs.Fields.{Group, grouped, payloads, payload_of, fields, whole_fields}
use Rattle.tlv.specs.Grammar.{encoding_flag_at, part_length_at, row_line_at, row_column_at, row_kind_at, list_base_at, list_addresses_at, list_size_at}

-- an attribute: its name, its kind, the number that its value spells, and its value's bytes
pub record Attribute : Type 0 where
  pub name : ℕ
  pub kind : ℕ
  pub value : ℕ
  pub text : List ℕ

-- a range of an entry, with the decoder's word on whether its start is a tombstone
pub record EntryRange : Type 0 where
  pub range : AddressRange
  pub tombstone : Bool

-- where reading an entry's ranges failed: before any (0) or after those given (1), and why
pub record RangeFailure : Type 0 where
  pub stage : ℕ
  pub reason : List ℕ

-- a range list (document 02, E9): its offset in the list section, the unit's base address, the byte place of the unit's addresses in the table, the address
-- size
pub record RangeList : Type 0 where
  pub offset : ℕ
  pub base : ℕ
  pub addresses : ℕ
  pub size : ℕ

pub record Entry : Type 0 where
  pub offset : ℕ
  pub depth : ℕ
  pub tag : ℕ
  pub attributes : List Attribute
  pub ranges : List EntryRange
  pub failure : Option RangeFailure
  pub list : Option RangeList

pub record LineHeader : Type 0 where
  pub offset : ℕ
  pub header_length : ℕ
  pub version : ℕ
  pub word_size : ℕ
  pub opcode_base : ℕ
  pub opcode_lengths : List ℕ

-- what a header says of advances (the Standard, 6.2.4, 6 to 10; document 02, E8)
pub record LineEncoding : Type 0 where
  pub minimum_instruction_length : ℕ
  pub maximum_operations : ℕ  -- per instruction
  pub default_is_stmt : Bool  -- no row of document 01 shows the statement flag
  pub line_base : ℕ  -- the byte of a signed number
  pub line_range : ℕ

-- the unit's part of the lent line program (document 02, E11)
pub record ProgramPart : Type 0 where
  pub start : ℕ
  pub length : ℕ

pub record Directory : Type 0 where
  pub failed : Bool
  pub path : List ℕ

pub record HeaderFile : Type 0 where
  pub failed : Bool
  pub directory : ℕ
  pub path : List ℕ

-- kind 0 plain, 1 end of sequence, 2 failed here
pub record LineRow : Type 0 where
  pub address : ℕ
  pub file : ℕ
  pub line : ℕ
  pub column : ℕ
  pub kind : ℕ

pub record CompilationUnit : Type 0 where
  pub offset : ℕ
  pub length : ℕ
  pub version : ℕ
  pub word_size : ℕ
  pub directory : Option (List ℕ)
  pub text : List AddressRange  -- the executable ranges
  pub header : Option LineHeader
  pub encoding : Option LineEncoding  -- some: the rows are those of the line program
  pub part : Option ProgramPart  -- none: the whole program
  pub directories : List Directory
  pub file_zero : Option HeaderFile  -- file 0 before version 5
  pub files : List HeaderFile
  pub rows : List LineRow
  pub entries : List Entry
  pub lists : ℕ  -- how many fields 1f it has

-- ---- the fields' payloads

abbrev pub flag_at : List ℕ → ℕ → Bool
flag_at p i = eqb (le_at 1 p i) 1

-- 12
unfoldable pub range_of : List ℕ → AddressRange
range_of p = record { start = le_at 8 p 0; end = le_at 8 p 8 }

-- 13
unfoldable pub header_of : List ℕ → LineHeader
header_of p = record {
  offset = le_at 8 p 0;
  header_length = le_at 8 p 8;
  version = le_at 1 p 16;
  word_size = le_at 1 p 17;
  opcode_base = le_at 1 p 18;
  opcode_lengths = drop 19 p;
}

-- 1d
unfoldable pub encoding_of : List ℕ → LineEncoding
encoding_of p = record {
  minimum_instruction_length = le_at 1 p 0;
  maximum_operations = le_at 1 p 1;
  default_is_stmt = flag_at p encoding_flag_at;
  line_base = le_at 1 p 3;
  line_range = le_at 1 p 4;
}

-- 1e
unfoldable pub part_of : List ℕ → ProgramPart
part_of p = record { start = le_at 8 p 0; length = le_at 8 p part_length_at }

-- 14
unfoldable pub directory_of : List ℕ → Directory
directory_of p = record { failed = flag_at p 0; path = drop 1 p }

-- 15 and 1c
unfoldable pub file_of : List ℕ → HeaderFile
file_of p = record { failed = flag_at p 0; directory = le_at 8 p 1; path = drop 9 p }

-- 16
unfoldable pub row_of : List ℕ → LineRow
row_of p = record { address = le_at 8 p 0; file = le_at 8 p 8; line = le_at 8 p row_line_at; column = le_at 2 p row_column_at; kind = le_at 1 p row_kind_at }

-- 18
unfoldable pub attribute_of : List ℕ → Attribute
attribute_of p = record { name = le_at 2 p 0; kind = le_at 1 p 2; value = le_at 8 p 3; text = drop 3 p }

-- 19
unfoldable pub entry_range_of : List ℕ → EntryRange
entry_range_of p = record { range = range_of p; tombstone = flag_at p 16 }

-- 1a
unfoldable pub failure_of : List ℕ → RangeFailure
failure_of p = record { stage = le_at 1 p 0; reason = drop 1 p }

-- 1f
unfoldable pub range_list_of : List ℕ → RangeList
range_list_of p = record { offset = le_at 8 p 0; base = le_at 8 p list_base_at; addresses = le_at 8 p list_addresses_at; size = le_at 1 p list_size_at }

-- 17 and what follows it
unfoldable pub entry_of : Group → Entry
entry_of g =
    let p = g.head.payload in
    record {
      offset = le_at 8 p 0;
      depth = le_at 2 p 8;
      tag = le_at 2 p 10;
      attributes = map attribute_of (payloads attribute_tag g.rest);
      ranges = map entry_range_of (payloads range_tag g.rest);
      failure = map_option failure_of (payload_of failure_tag g.rest);
      list = map_option range_list_of (payload_of list_tag g.rest);
    }

-- 10 and what follows it: the fields before the first entry, and the entries
unfoldable pub unit_of : Group → CompilationUnit
unit_of g =
    let p = g.head.payload in
    let own = (grouped entry_tag g.rest).before in
    record {
      offset = le_at 8 p 0;
      length = le_at 8 p 8;
      version = le_at 1 p 16;
      word_size = le_at 1 p 17;
      directory = payload_of compilation_tag own;
      text = map range_of (payloads text_tag own);
      header = map_option header_of (payload_of header_tag own);
      encoding = map_option encoding_of (payload_of encoding_tag own);
      part = map_option part_of (payload_of part_tag own);
      directories = map directory_of (payloads directory_tag own);
      file_zero = map_option file_of (payload_of file_zero_tag own);
      files = map file_of (payloads file_tag own);
      rows = map row_of (payloads row_tag own);
      entries = map entry_of (grouped entry_tag g.rest).groups;
      lists = length (payloads list_tag g.rest);
    }

-- the units of a sheet
unfoldable pub units : List ℕ → List CompilationUnit
units s = map unit_of (grouped unit_tag (whole_fields (fields s))).groups

-- ---- the unit's program

abbrev pub program_part : Option ProgramPart → List ℕ → List ℕ
program_part none program = program
program_part (some p) program = take p.length (drop p.start program)

-- "names the unit's part of the lent program by start and length; .. without 1e it is the whole program"
unfoldable pub program_of : CompilationUnit → List ℕ → List ℕ
program_of u program = program_part u.part program
