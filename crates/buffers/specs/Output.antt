-- Definition. What the trays are given, and its bytes (document 01, "Trays use the same field shape"). A tray is one of the three output buffers.
use Rattle.std.specs.Prelude.{ℕ, ◌+◌, Bool, cond, List, [], ◌∷◌, ◌++◌, length}
use Rattle.tlv.specs.Tags.{tray_file_tag, tray_function_tag, tray_node_tag, tray_range_tag, tray_row_tag, tray_site_tag, tray_warning_tag}
use Rattle.tlv.specs.declared.model.AddressRange.{AddressRange}
use Rattle.tlv.specs.declared.model.FileIndex.{FileIndex}
use Rattle.tlv.specs.declared.model.LineEntry.{LineEntry}
use Rattle.tlv.specs.Lists.{is_empty}
use Rattle.tlv.specs.Bytes.{bytes_of}
use Rattle.tlv.specs.Fields.{encode}

-- ---- the Rust's model.rs

pub record FileEntry : Type 0 where
  pub directory : List ℕ
  pub basename : List ℕ

-- an inlined call; its children follow it, one deeper
pub record InlineNode : Type 0 where
  pub depth : ℕ
  pub call_file : FileIndex
  pub call_line : ℕ
  pub name : List ℕ
  pub ranges : List AddressRange

pub record CallSite : Type 0 where
  pub return_offset : ℕ
  pub pattern : List ℕ  -- empty: none

pub record Function : Type 0 where
  pub range : AddressRange
  pub name : List ℕ
  pub lines : List LineEntry
  pub inline : List InlineNode
  pub call_sites : List CallSite

-- ---- diagnostic.rs, ConversionWarning

-- the warnings that say two numbers
pub data WarningKind : Type 0 where
  rejected_range invalid_statement_sequence line_sequence_mismatch missing_line_file unrepresentable_line : WarningKind
  missing_inline_call_file invalid_inline_call_line invalid_declaration_file invalid_declaration_line : WarningKind

pub data Warning : Type 0 where
  malformed_ranges : Bool → List ℕ → Warning  -- whether reading had to stop, and why
  about : WarningKind → ℕ → ℕ → Warning

-- "Kinds 1 to 11 are MalformedRanges unstopped, then stopped, RejectedRange, and InvalidStatementSequence to InvalidDeclarationLine"
unfoldable pub kind_number : WarningKind → ℕ
kind_number rejected_range = 3
kind_number invalid_statement_sequence = 4
kind_number line_sequence_mismatch = 5
kind_number missing_line_file = 6
kind_number unrepresentable_line = 7
kind_number missing_inline_call_file = 8
kind_number invalid_inline_call_line = 9
kind_number invalid_declaration_file = 10
kind_number invalid_declaration_line = 11

-- ---- payloads

-- 41 function: start, end, name
unfoldable pub function_payload : AddressRange → List ℕ → List ℕ
function_payload r name = bytes_of 8 r.start ++ bytes_of 8 r.end ++ name

-- 42 row: address, file 4 bytes, line 4 bytes, (E7) column 2 bytes: where the column stands, and how many bytes these are
abbrev pub tray_column_at : ℕ
tray_column_at = 16

abbrev pub tray_row_size : ℕ
tray_row_size = tray_column_at + 2

unfoldable pub row_payload : LineEntry → List ℕ
row_payload l = bytes_of 8 l.address ++ bytes_of 4 l.file.0 ++ bytes_of 4 l.line ++ bytes_of 2 l.column

-- 43 node: depth 2, call file 4, call line 4, name
unfoldable pub node_payload : InlineNode → List ℕ
node_payload n = bytes_of 2 n.depth ++ bytes_of 4 n.call_file.0 ++ bytes_of 4 n.call_line ++ n.name

-- 44 range: start, end
unfoldable pub range_payload : AddressRange → List ℕ
range_payload r = bytes_of 8 r.start ++ bytes_of 8 r.end

-- 45 call site: return offset, pattern count 1 byte, pattern
unfoldable pub site_payload : CallSite → List ℕ
site_payload s = bytes_of 8 s.return_offset ++ (cond (is_empty s.pattern) 0 1 ∷ s.pattern)

-- 40 file: directory length 2 bytes, directory, basename
unfoldable pub file_payload : FileEntry → List ℕ
file_payload f = bytes_of 2 (length f.directory) ++ f.directory ++ f.basename

-- 46 warning: kind 1 byte, two numbers or the reason
unfoldable pub warning_payload : Warning → List ℕ
warning_payload (malformed_ranges stopped reason) = cond stopped 2 1 ∷ reason
warning_payload (about kind a b) = (kind_number kind ∷ []) ++ bytes_of 8 a ++ bytes_of 8 b

-- ---- the bytes of a tray

module _ {A : Type 0} where
  -- the bytes of each, one after the other
  unfoldable pub each_of : (A → List ℕ) → List A → List ℕ
  each_of f [] = []
  each_of f (x ∷ xs) = f x ++ each_of f xs

abbrev pub range_bytes : AddressRange → List ℕ
range_bytes r = encode tray_range_tag (range_payload r)

-- "43 node .. in preorder, each followed by its ranges 44"
unfoldable pub node_bytes : InlineNode → List ℕ
node_bytes n = encode tray_node_tag (node_payload n) ++ each_of range_bytes n.ranges

unfoldable pub function_bytes : Function → List ℕ
function_bytes f =
    encode tray_function_tag (function_payload f.range f.name) ++ each_of (λ l. encode tray_row_tag (row_payload l)) f.lines
    ++ each_of node_bytes f.inline ++ each_of (λ s. encode tray_site_tag (site_payload s)) f.call_sites

unfoldable pub records_bytes : List Function → List ℕ
records_bytes fs = each_of function_bytes fs

unfoldable pub files_bytes : List FileEntry → List ℕ
files_bytes fs = each_of (λ f. encode tray_file_tag (file_payload f)) fs

unfoldable pub warnings_bytes : List Warning → List ℕ
warnings_bytes ws = each_of (λ w. encode tray_warning_tag (warning_payload w)) ws
