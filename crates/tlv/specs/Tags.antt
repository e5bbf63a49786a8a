-- Definition. The tags of the fields of a sheet, in the order in which a unit has them, and of a tray (document 01; document 02, E8 and E11).
use Rattle.std.specs.Prelude.{ℕ, ◌+◌}

abbrev pub unit_tag : ℕ
unit_tag = 0x10

-- the compilation directory
abbrev pub compilation_tag : ℕ
compilation_tag = 0x11

-- an executable range
abbrev pub text_tag : ℕ
text_tag = 0x12

-- the line header
abbrev pub header_tag : ℕ
header_tag = 0x13

-- the line encoding
abbrev pub encoding_tag : ℕ
encoding_tag = 0x1d

-- the part of the line program
abbrev pub part_tag : ℕ
part_tag = 0x1e

abbrev pub directory_tag : ℕ
directory_tag = 0x14

abbrev pub file_zero_tag : ℕ
file_zero_tag = 0x1c

abbrev pub file_tag : ℕ
file_tag = 0x15

abbrev pub row_tag : ℕ
row_tag = 0x16

abbrev pub entry_tag : ℕ
entry_tag = 0x17

abbrev pub attribute_tag : ℕ
attribute_tag = 0x18

abbrev pub range_tag : ℕ
range_tag = 0x19

-- a failure to read ranges
abbrev pub failure_tag : ℕ
failure_tag = 0x1a

-- a range list
abbrev pub list_tag : ℕ
list_tag = 0x1f

-- ---- the trays

abbrev pub tray_file_tag : ℕ
tray_file_tag = 0x40

abbrev pub tray_function_tag : ℕ
tray_function_tag = 0x41

abbrev pub tray_row_tag : ℕ
tray_row_tag = 0x42

abbrev pub tray_node_tag : ℕ
tray_node_tag = 0x43

abbrev pub tray_range_tag : ℕ
tray_range_tag = 0x44

abbrev pub tray_site_tag : ℕ
tray_site_tag = 0x45

abbrev pub tray_warning_tag : ℕ
tray_warning_tag = 0x46

-- ---- bytes of the head of a field, its tag and its length, and of the whole field of a unit and of an entry

abbrev pub field_head : ℕ
field_head = 3

abbrev pub unit_whole : ℕ
unit_whole = field_head + 18

abbrev pub entry_whole : ℕ
entry_whole = field_head + 12
