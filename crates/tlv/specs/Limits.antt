-- Definition. The limits of document 01's table, each named once.
use Rattle.std.specs.Prelude.{ℕ, ◌+◌, ◌*◌}

-- 1, oversize: bytes of a sheet, bytes of a line program
abbrev pub input_limit : ℕ
input_limit = 16777216

abbrev pub program_limit : ℕ
program_limit = 4194304

-- bytes of a list section and of an address table (E9)
abbrev pub list_limit : ℕ
list_limit = 4194304

-- 3, past limit: fields and units of a sheet, bytes of a string and of a reason, depth of an entry
abbrev pub field_limit : ℕ
field_limit = 65536

abbrev pub unit_limit : ℕ
unit_limit = 256

-- E12: "The colour library's longest linkage name is 6,113 bytes"
abbrev pub string_limit : ℕ
string_limit = 6113

-- E12: "reasons keep 4,096"
abbrev pub reason_limit : ℕ
reason_limit = 4096

abbrev pub depth_limit : ℕ
depth_limit = 1024

-- the longest joined path: three strings and the two slashes between them
abbrev pub joined_limit : ℕ
joined_limit = 3 * string_limit + 2

-- 5, short work: bytes of work for each field, for each byte of the program, and (E12) besides, "to hold" the longest joined path
abbrev pub work_of_field : ℕ
work_of_field = 64

abbrev pub work_of_program_byte : ℕ
work_of_program_byte = 4

-- E8: with an encoding a unit's "import's work needs 64 × program bytes in place of 4 ×"
abbrev pub work_of_encoded_byte : ℕ
work_of_encoded_byte = 64

-- .. for each byte of the list section, as often as the unit has fields 1f, of which so many count at most (E9)
abbrev pub work_of_list_byte : ℕ
work_of_list_byte = 8

abbrev pub counted_lists : ℕ
counted_lists = 256

abbrev pub work_besides : ℕ
work_besides = 32768
