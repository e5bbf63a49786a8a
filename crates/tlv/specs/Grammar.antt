-- Definition. Which sheets are accepted, and how many fields they have (document 01, "The sheet" and refusals 2 and 3).
-- The first bad field decides; in one field 2 goes before 3.
use Rattle.std.specs.Prelude.{ℕ, ◌+◌, ◌-◌, ◌^◌, Bool, true, false, cond, ◌&&◌, ◌||◌, not, List, [], ◌∷◌, length, leb, ltb, eqb}
use Rattle.tlv.specs.Tags.{attribute_tag, compilation_tag, directory_tag, encoding_tag, entry_tag, failure_tag, file_tag, file_zero_tag, header_tag, list_tag}
use Rattle.tlv.specs.Tags.{part_tag, range_tag, row_tag, text_tag, unit_tag}
use Rattle.tlv.specs.declared.grammar.Context.{Context}
use Rattle.tlv.specs.Outcome.{Outcome, refused, done}
use Rattle.tlv.specs.Lists.{exists}
use Rattle.tlv.specs.Bytes.{le_at}
use Rattle.tlv.specs.Limits.{field_limit, unit_limit, string_limit, reason_limit, depth_limit}
use Rattle.tlv.specs.Fields.{Field, FieldList, end, cut, more, fields}

-- before the first field, with a line program of so many bytes
abbrev pub start : ℕ → Context
start program = record {
  previous = 0;
  count = 0;
  units = 0;
  end = 0;
  length = 0;
  version = 0;
  offset = 0;
  depth = 0;
  program = program;
  encoded = false;
}

-- ---- the order: "A unit is 10, at most one 11, any 12; then optionally 13 and, only after one, any 14, at most one 1c, any 15, any 16; then entries, .."
-- Document 02, E8: "A new field, 1d hex, after the line header"; E11: "A field 1e hex after a line header (and its 1d)": directly behind it, at most one each

-- where the encoding's flag stands, and its payload's size
abbrev pub encoding_flag_at : ℕ
encoding_flag_at = 2

abbrev pub encoding_field_size : ℕ
encoding_field_size = 5

-- where the part's length stands behind its start, and its payload's size
abbrev pub part_length_at : ℕ
part_length_at = 8

abbrev pub part_field_size : ℕ
part_field_size = part_length_at + 8

-- the tags that may stand after a tag
unfoldable pub after : ℕ → List ℕ
after t =
    cond (eqb t unit_tag) (unit_tag ∷ compilation_tag ∷ text_tag ∷ header_tag ∷ entry_tag ∷ [])
    (cond (eqb t compilation_tag || eqb t text_tag) (unit_tag ∷ text_tag ∷ header_tag ∷ entry_tag ∷ [])
    (cond (eqb t header_tag) (unit_tag ∷ encoding_tag ∷ part_tag ∷ directory_tag ∷ file_zero_tag ∷ file_tag ∷ row_tag ∷ entry_tag ∷ [])
    (cond (eqb t encoding_tag) (unit_tag ∷ part_tag ∷ directory_tag ∷ file_zero_tag ∷ file_tag ∷ row_tag ∷ entry_tag ∷ [])
    (cond (eqb t part_tag || eqb t directory_tag) (unit_tag ∷ directory_tag ∷ file_zero_tag ∷ file_tag ∷ row_tag ∷ entry_tag ∷ [])
    (cond (eqb t file_zero_tag || eqb t file_tag) (unit_tag ∷ file_tag ∷ row_tag ∷ entry_tag ∷ [])
    (cond (eqb t row_tag) (unit_tag ∷ row_tag ∷ entry_tag ∷ [])
    (cond (eqb t entry_tag || eqb t attribute_tag) (unit_tag ∷ entry_tag ∷ attribute_tag ∷ range_tag ∷ failure_tag ∷ list_tag ∷ [])
    (cond (eqb t range_tag) (unit_tag ∷ entry_tag ∷ range_tag ∷ failure_tag ∷ [])
    (cond (eqb t failure_tag || eqb t list_tag) (unit_tag ∷ entry_tag ∷ [])
    (unit_tag ∷ []))))))))))

unfoldable pub may_follow : ℕ → ℕ → Bool
may_follow previous t = exists (eqb t) (after previous)

-- ---- the shape of each field, by itself and against the fields before it

abbrev pub is_word : ℕ → Bool
is_word n = eqb n 4 || eqb n 8

abbrev pub is_version : ℕ → Bool
is_version n = leb 2 n && leb n 5

abbrev pub is_flag : ℕ → Bool
is_flag n = leb n 1

-- 10 unit: section offset, length, version (1 byte, 2 to 5), word size (1 byte, 4 or 8).
-- "Offset + length must not pass 2^64 − 1; units ascend without overlap."
unfoldable pub unit_shaped : Context → List ℕ → Bool
unit_shaped c p =
    eqb (length p) 18 && is_version (le_at 1 p 16) && is_word (le_at 1 p 17)
    && ltb (le_at 8 p 0 + le_at 8 p 8) (2 ^ 64) && leb c.end (le_at 8 p 0)

-- 12 executable range: start, end
unfoldable pub text_shaped : List ℕ → Bool
text_shaped p = eqb (length p) 16

-- 13 line header: offset, header length, version, word size, opcode base (1 byte each), then any number of standard opcode lengths
unfoldable pub header_shaped : List ℕ → Bool
header_shaped p = leb 19 (length p) && is_version (le_at 1 p 16) && is_word (le_at 1 p 17)

-- 1d line encoding: "minimum instruction length (1 byte), operations per instruction (1), default statement flag (1, 0 or 1), line base (1, signed) and line
-- range (1)"
unfoldable pub encoding_shaped : List ℕ → Bool
encoding_shaped p = eqb (length p) encoding_field_size && is_flag (le_at 1 p encoding_flag_at)

-- 1e part of the line program: start, length, 8 bytes each. "a part past the program is misshapen": its end counts, in numbers without a limit
unfoldable pub part_shaped : Context → List ℕ → Bool
part_shaped c p = eqb (length p) part_field_size && leb (le_at 8 p 0 + le_at 8 p part_length_at) c.program

-- 14 directory: a failed flag, the string
unfoldable pub directory_shaped : List ℕ → Bool
directory_shaped p = leb 1 (length p) && is_flag (le_at 1 p 0)

-- 15 file and 1c file 0: a failed flag, the directory number, the string
unfoldable pub file_shaped : List ℕ → Bool
file_shaped p = leb 9 (length p) && is_flag (le_at 1 p 0)

-- 16 row: address, file number, line, (E7) a column of 2 bytes "after the line", kind (1 byte: 0 plain, 1 end of sequence, 2 failed here): where
-- these stand
abbrev pub row_line_at : ℕ
row_line_at = 16

abbrev pub row_column_at : ℕ
row_column_at = row_line_at + 8

abbrev pub row_kind_at : ℕ
row_kind_at = row_column_at + 2

-- the kind is its last byte
abbrev pub row_field_size : ℕ
row_field_size = row_kind_at + 1

-- E8: with a 1d "the unit's row fields are misshapen"
unfoldable pub row_shaped : Context → List ℕ → Bool
row_shaped c p = not c.encoded && eqb (length p) row_field_size && leb (le_at 1 p row_kind_at) 2

-- 17 entry: offset in unit, depth (2 bytes), tag (2 bytes). "Entry offsets rise and stay below the length.
-- The first entry has depth 0, later ones 1 to the previous plus 1."
unfoldable pub entry_shaped : Context → List ℕ → Bool
entry_shaped c p =
    eqb (length p) 12 && leb c.offset (le_at 8 p 0) && ltb (le_at 8 p 0) c.length
    && leb (le_at 2 p 8) c.depth && (leb 1 (le_at 2 p 8) || eqb c.depth 0)

-- the value of an attribute by its kind: 3 string, 10 failed (no value), else a number
unfoldable pub value_shaped : ℕ → ℕ → Bool
value_shaped kind n =
    cond (eqb kind 3) true
    (cond (eqb kind 10) (eqb n 0)
    (leb 1 kind && leb kind 9 && eqb n 8))

-- 18 attribute: name (2 bytes), kind (1 byte), value
unfoldable pub attribute_shaped : List ℕ → Bool
attribute_shaped p = leb 3 (length p) && value_shaped (le_at 1 p 2) (length p - 3)

-- 19 range: start, end, tombstone flag
unfoldable pub range_shaped : List ℕ → Bool
range_shaped p = eqb (length p) 17 && is_flag (le_at 1 p 16)

-- 1a range failure: stage (1 byte, "0 before any range, 1 after those given"; "stage 0 only with no 19"), reason
unfoldable pub failure_shaped : ℕ → List ℕ → Bool
failure_shaped previous p = leb 1 (length p) && is_flag (le_at 1 p 0) && (eqb (le_at 1 p 0) 1 || not (eqb previous range_tag))

-- 1f range list (document 02, E9), "in place of 19 and 1a": list offset, unit base address, byte place of the unit's addresses in the table,
-- address size (1 byte, 4 or 8). "In version 5 units (1f is misshapen in others)": the version of field 10
abbrev pub list_base_at : ℕ
list_base_at = 8

abbrev pub list_addresses_at : ℕ
list_addresses_at = list_base_at + 8

abbrev pub list_size_at : ℕ
list_size_at = list_addresses_at + 8

abbrev pub list_field_size : ℕ
list_field_size = list_size_at + 1

abbrev pub list_version : ℕ
list_version = 5

unfoldable pub list_shaped : Context → List ℕ → Bool
list_shaped c p = eqb (length p) list_field_size && eqb c.version list_version && is_word (le_at 1 p list_size_at)

-- the payload of a field of tag t
unfoldable pub payload_shaped : Context → ℕ → List ℕ → Bool
payload_shaped c t p =
    cond (eqb t unit_tag) (unit_shaped c p)
    (cond (eqb t compilation_tag) true
    (cond (eqb t text_tag) (text_shaped p)
    (cond (eqb t header_tag) (header_shaped p)
    (cond (eqb t encoding_tag) (encoding_shaped p)
    (cond (eqb t part_tag) (part_shaped c p)
    (cond (eqb t directory_tag) (directory_shaped p)
    (cond (eqb t file_tag || eqb t file_zero_tag) (file_shaped p)
    (cond (eqb t row_tag) (row_shaped c p)
    (cond (eqb t entry_tag) (entry_shaped c p)
    (cond (eqb t attribute_tag) (attribute_shaped p)
    (cond (eqb t range_tag) (range_shaped p)
    (cond (eqb t failure_tag) (failure_shaped c.previous p)
    (cond (eqb t list_tag) (list_shaped c p)
    false)))))))))))))

-- 2: a field that is no breach of the grammar
unfoldable pub shaped : Context → Field → Bool
shaped c f = may_follow c.previous f.tag && payload_shaped c f.tag f.payload

-- ---- 3: over 65,536 fields or 256 units in a sheet, a string over 6,113 bytes, a reason over 4,096, an entry depth over 1,024

unfoldable pub payload_limited : Context → ℕ → List ℕ → Bool
payload_limited c t p =
    cond (eqb t unit_tag) (ltb c.units unit_limit)
    (cond (eqb t compilation_tag) (leb (length p) string_limit)
    (cond (eqb t directory_tag) (leb (length p - 1) string_limit)
    (cond (eqb t file_tag || eqb t file_zero_tag) (leb (length p - 9) string_limit)
    (cond (eqb t entry_tag) (leb (le_at 2 p 8) depth_limit)
    (cond (eqb t attribute_tag) (not (eqb (le_at 1 p 2) 3) || leb (length p - 3) string_limit)
    (cond (eqb t failure_tag) (leb (length p - 1) reason_limit)
    true))))))

unfoldable pub limited : Context → Field → Bool
limited c f = ltb c.count field_limit && payload_limited c f.tag f.payload

-- ---- the whole sheet

unfoldable pub next : Context → Field → Context
next c f =
    let t = f.tag in
    let p = f.payload in
    cond (eqb t unit_tag)
    (record {
      previous = t;
      count = c.count + 1;
      units = c.units + 1;
      end = le_at 8 p 0 + le_at 8 p 8;
      length = le_at 8 p 8;
      version = le_at 1 p 16;
      offset = 0;
      depth = 0;
      program = c.program;
      encoded = false;
    })
    (cond (eqb t entry_tag)
    (record {
      previous = t;
      count = c.count + 1;
      units = c.units;
      end = c.end;
      length = c.length;
      version = c.version;
      offset = le_at 8 p 0 + 1;
      depth = le_at 2 p 8 + 1;
      program = c.program;
      encoded = c.encoded;
    })
    (record {
      previous = t;
      count = c.count + 1;
      units = c.units;
      end = c.end;
      length = c.length;
      version = c.version;
      offset = c.offset;
      depth = c.depth;
      program = c.program;
      encoded = eqb t encoding_tag || c.encoded;
    }))

-- the number of fields, or the refusal that the first bad field gives
unfoldable pub check_from : Context → FieldList → Outcome ℕ
check_from c end = done c.count
check_from c cut = refused 2
check_from c (more f fs) = cond (shaped c f) (cond (limited c f) (check_from (next c f) fs) (refused 3)) (refused 2)

-- an input of fields, which document 01 calls a sheet, that is lent with a line program of so many bytes
unfoldable pub check_input : ℕ → List ℕ → Outcome ℕ
check_input program s = check_from (start program) (fields s)
