-- Definition. Reading trays back (document 01, "Trays use the same field shape"): total on any bytes, none where they are not in that form.
use Rattle.std.specs.Prelude.{ℕ, ◌+◌, Bool, false, cond, ◌&&◌, ◌||◌, not, List, [], ◌∷◌, map, length, take, drop, leb, ltb, eqb}
use Rattle.std.proofs.Math.Option.{Option, none, some}
use Rattle.tlv.specs.Tags.{tray_file_tag, tray_function_tag, tray_node_tag, tray_range_tag, tray_row_tag, tray_site_tag, tray_warning_tag}
use Rattle.tlv.specs.declared.model.LineEntry.{LineEntry}
use Rattle.tlv.specs.Lists.{exists, map_option}
use Rattle.tlv.specs.Bytes.{le_at}
use Rattle.tlv.specs.Fields.{Field, FieldList, end, cut, more, fields, whole_fields, Group, grouped, payloads}
use Rattle.tlv.specs.Model.{range_of}
use Rattle.buffers.specs.Output.{FileEntry, InlineNode, CallSite, Function, WarningKind, rejected_range, invalid_statement_sequence, line_sequence_mismatch}
use Rattle.buffers.specs.Output.{missing_line_file, unrepresentable_line, missing_inline_call_file, invalid_inline_call_line, invalid_declaration_file}
use Rattle.buffers.specs.Output.{invalid_declaration_line, Warning, malformed_ranges, about, tray_row_size, tray_column_at}

-- ---- the form of a records tray

-- the tags that may stand after a tag: rows before nodes before call sites, a range or more after each node
unfoldable pub records_after : ℕ → List ℕ
records_after t =
    cond (eqb t tray_function_tag || eqb t tray_row_tag) (tray_function_tag ∷ tray_row_tag ∷ tray_node_tag ∷ tray_site_tag ∷ [])
    (cond (eqb t tray_node_tag) (tray_range_tag ∷ [])
    (cond (eqb t tray_range_tag) (tray_function_tag ∷ tray_node_tag ∷ tray_range_tag ∷ tray_site_tag ∷ [])
    (cond (eqb t tray_site_tag) (tray_function_tag ∷ tray_site_tag ∷ [])
    (tray_function_tag ∷ []))))

-- the start is below the end
unfoldable pub range_formed : List ℕ → Bool
range_formed p = ltb (le_at 8 p 0) (le_at 8 p 8)

-- the payload of a field of tag t; `depth` is the largest that the next node may have. A function's first node has depth 0, later ones 1 or more, none more
-- than 256
unfoldable pub records_formed : ℕ → ℕ → List ℕ → Bool
records_formed depth t p =
    cond (eqb t tray_function_tag) (leb 16 (length p) && range_formed p)
    (cond (eqb t tray_row_tag) (eqb (length p) tray_row_size)
    (cond (eqb t tray_node_tag) (leb 10 (length p) && leb (le_at 2 p 0) depth && leb (le_at 2 p 0) 256 && (leb 1 (le_at 2 p 0) || eqb depth 0))
    (cond (eqb t tray_range_tag) (eqb (length p) 16 && range_formed p)
    (cond (eqb t tray_site_tag) (leb 9 (length p))
    false))))

-- the largest depth of the next node, after a field
unfoldable pub depth_after : ℕ → Field → ℕ
depth_after depth f = cond (eqb f.tag tray_function_tag) 0 (cond (eqb f.tag tray_node_tag) (le_at 2 f.payload 0 + 1) depth)

-- fields that follow a field of tag `previous` (0 before the first)
unfoldable pub records_form : ℕ → ℕ → FieldList → Bool
records_form previous depth end = not (eqb previous tray_node_tag)
records_form previous depth cut = false
records_form previous depth (more f fs) =
    exists (eqb f.tag) (records_after previous) && records_formed depth f.tag f.payload
    && records_form f.tag (depth_after depth f) fs

-- ---- what a records tray says

unfoldable pub line_of : List ℕ → LineEntry
line_of p = record { address = le_at 8 p 0; file = record { 0 = le_at 4 p 8 }; line = le_at 4 p 12; column = le_at 2 p tray_column_at }

unfoldable pub node_of : Group → InlineNode
node_of g =
    let p = g.head.payload in
    record {
      depth = le_at 2 p 0;
      call_file = record { 0 = le_at 4 p 2 };
      call_line = le_at 4 p 6;
      name = drop 10 p;
      ranges = map range_of (payloads tray_range_tag g.rest);
    }

unfoldable pub site_of : List ℕ → CallSite
site_of p = record { return_offset = le_at 8 p 0; pattern = drop 9 p }

unfoldable pub function_of : Group → Function
function_of g =
    let p = g.head.payload in
    record {
      range = range_of p;
      name = drop 16 p;
      lines = map line_of (payloads tray_row_tag g.rest);
      inline = map node_of (grouped tray_node_tag g.rest).groups;
      call_sites = map site_of (payloads tray_site_tag g.rest);
    }

unfoldable pub read_records : List ℕ → Option (List Function)
read_records buffer = cond (records_form 0 0 (fields buffer)) (some (map function_of (grouped tray_function_tag (whole_fields (fields buffer))).groups)) none

-- ---- files and warnings: each field by itself

module _ {A : Type 0} where
  abbrev pub cons_option : Option A → Option (List A) → Option (List A)
  cons_option none r = none
  cons_option (some a) none = none
  cons_option (some a) (some as') = some (a ∷ as')

  unfoldable pub read_each : (Field → Option A) → FieldList → Option (List A)
  read_each f end = some []
  read_each f cut = none
  read_each f (more x fs) = cons_option (f x) (read_each f fs)

unfoldable pub file_entry_of : Field → Option FileEntry
file_entry_of f =
    let p = f.payload in
    let n = le_at 2 p 0 in
    cond (eqb f.tag tray_file_tag && leb (2 + n) (length p)) (some (record { directory = take n (drop 2 p); basename = drop (2 + n) p })) none

unfoldable pub read_files : List ℕ → Option (List FileEntry)
read_files buffer = read_each file_entry_of (fields buffer)

-- the kind of a number
unfoldable pub kind_of : ℕ → Option WarningKind
kind_of n =
    cond (eqb n 3) (some rejected_range)
    (cond (eqb n 4) (some invalid_statement_sequence)
    (cond (eqb n 5) (some line_sequence_mismatch)
    (cond (eqb n 6) (some missing_line_file)
    (cond (eqb n 7) (some unrepresentable_line)
    (cond (eqb n 8) (some missing_inline_call_file)
    (cond (eqb n 9) (some invalid_inline_call_line)
    (cond (eqb n 10) (some invalid_declaration_file)
    (cond (eqb n 11) (some invalid_declaration_line)
    none))))))))

-- 1 and 2 have a reason, the others two numbers
unfoldable pub warning_of : Field → Option Warning
warning_of f =
    let p = f.payload in
    let k = le_at 1 p 0 in
    cond (eqb f.tag tray_warning_tag && leb 1 (length p))
    (cond (eqb k 1 || eqb k 2) (some (malformed_ranges (eqb k 2) (drop 1 p)))
    (cond (eqb (length p) 17) (map_option (λ kind. about kind (le_at 8 p 1) (le_at 8 p 9)) (kind_of k)) none))
    none

unfoldable pub read_warnings : List ℕ → Option (List Warning)
read_warnings buffer = read_each warning_of (fields buffer)
