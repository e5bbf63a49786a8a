-- Each payload that fits is read back as what it says, and is short where its length is fixed.
use mathlib.Core.Path.{◌≡◌, refl, sym, ◌∙◌}
use mathlib.Core.Bool.{true, false, cond}
use mathlib.Core.List.{List, [], ◌∷◌, ◌++◌, append_assoc, append-nil}
use mathlib.Core.Option.{some}
use Prim.Native.Nat.{ℕ, suc, ◌+◌, ◌^◌, ◌<◌, ◌≤◌}
use native.Mathlib.Omega.{arith}
use lib.ListN.{length, take, drop, length-append}
use lib.Seq.{take-append_seam, drop-append_seam}
use borrow.Author.Tests.{le-leb, ne_eqb}
use Rattle.tlv.specs.declared.model.AddressRange.{AddressRange}
use Rattle.tlv.specs.declared.model.LineEntry.{LineEntry}
use Rattle.tlv.specs.Lists.{is_empty, map_option}
use Rattle.tlv.specs.Bytes.{bytes_of, le_at}
use Rattle.tlv.specs.Model.{range_of}
use Rattle.tlv.proofs.ByteLaws.{length-bytes_of, le_at-byte, le_at-tail, le_at-first, le_at-only, le_at-next, drop-bytes_of}
use Rattle.buffers.specs.Output.{FileEntry, InlineNode, CallSite, WarningKind, rejected_range, invalid_statement_sequence, line_sequence_mismatch, missing_line_file, unrepresentable_line, missing_inline_call_file, invalid_inline_call_line, invalid_declaration_file, invalid_declaration_line, Warning, malformed_ranges, about, kind_number, function_payload, row_payload, node_payload, range_payload, site_payload, file_payload, warning_payload, tray_row_size}
use Rattle.buffers.specs.Reader.{line_of, site_of, file_entry_of, kind_of, warning_of}
use Rattle.buffers.specs.Fits.{Short, RangeFits, LineFits, NodeFits, SiteFits, FileFits, WarningFits}

-- ---- lengths

pub row-length : (l : LineEntry) → length (row_payload l) ≡ tray_row_size
unfolding row_payload
row-length l = simp (length-append, length-bytes_of)

pub range_length : (r : AddressRange) → length (range_payload r) ≡ 16
unfolding range_payload
range_length r = simp (length-append, length-bytes_of)

pub function-length : (r : AddressRange) (name : List ℕ) → length (function_payload r name) ≡ 16 + length name
unfolding function_payload
function-length r name = simp (length-append, length-bytes_of)

pub node-length : (n : InlineNode) → length (node_payload n) ≡ 10 + length n.name
unfolding node_payload
node-length n = simp (length-append, length-bytes_of)

pub site-length : (s : CallSite) → length (site_payload s) ≡ 9 + length s.pattern
unfolding site_payload
site-length s = simp (length-append, length-bytes_of) (omega arith)

pub file-length : (f : FileEntry) → length (file_payload f) ≡ 2 + length f.directory + length f.basename
unfolding file_payload
file-length f = simp (length-append, length-bytes_of)

pub about-length : (kind : WarningKind) (a b : ℕ) → length (warning_payload (about kind a b)) ≡ 17
unfolding warning_payload
about-length kind a b = simp (length-append, length-bytes_of)

pub row-short : (l : LineEntry) → Short (row_payload l)
row-short l = omega (arith, row-length l)

pub range-short : (r : AddressRange) → Short (range_payload r)
range-short r = omega (arith, range_length r)

pub warning-short : (w : Warning) → WarningFits w → Short (warning_payload w)
warning-short (malformed_ranges stopped reason) h = h
warning-short (about kind a b) h = omega (arith, about-length kind a b)

-- ---- the parts of the trays' payloads

-- a range is a function without a name
range-function : (r : AddressRange) → range_payload r ≡ function_payload r []
unfolding range_payload function_payload
range-function r = sym (append-nil (bytes_of 8 r.start ++ bytes_of 8 r.end))

-- 41 and 44
pub function-name : (r : AddressRange) (name : List ℕ) → drop 16 (function_payload r name) ≡ name
unfolding function_payload
function-name r name = rw append_assoc (drop-bytes_of 8 r.start 8 (bytes_of 8 r.end ++ name) ∙ drop-bytes_of 8 r.end 0 name)

module _ (r : AddressRange) (h : RangeFits r) where
  start_small : r.start < 2 ^ 64
  start_small = omega (arith, h.filled, h.small)

  module _ (name : List ℕ) where
    pub function-start : le_at 8 (function_payload r name) 0 ≡ r.start
    unfolding function_payload
    function-start = rw append_assoc (le_at-first 8 r.start (bytes_of 8 r.end ++ name) start_small)

    pub function-end : le_at 8 (function_payload r name) 8 ≡ r.end
    unfolding function_payload
    function-end = rw append_assoc (le_at-next 8 8 r.start 0 (bytes_of 8 r.end ++ name) ∙ le_at-first 8 r.end name h.small)

    pub function-range : range_of (function_payload r name) ≡ r
    unfolding range_of
    function-range = rw (function-start, function-end)

  pub range-start : le_at 8 (range_payload r) 0 ≡ r.start
  range-start = rw range-function (function-start [])

  pub range-end : le_at 8 (range_payload r) 8 ≡ r.end
  range-end = rw range-function (function-end [])

  pub range_back : range_of (range_payload r) ≡ r
  range_back = rw range-function (function-range [])

-- 42
module _ (l : LineEntry) where
  row-spread : row_payload l ≡ bytes_of 8 l.address ++ (bytes_of 4 l.file.0 ++ (bytes_of 4 l.line ++ bytes_of 2 l.column))
  unfolding row_payload
  row-spread = simp append_assoc

  pub row_back : LineFits l → line_of (row_payload l) ≡ l
  unfolding line_of
  row_back h =
      let column = bytes_of 2 l.column in
      let line = bytes_of 4 l.line ++ column in
      let file = bytes_of 4 l.file.0 ++ line in
      rw (
        row-spread,
        le_at-first 8 l.address file h.address,
        le_at-next 4 8 l.address 0 file,
        le_at-first 4 l.file.0 line h.file,
        le_at-next 4 8 l.address 4 file,
        le_at-next 4 4 l.file.0 0 line,
        le_at-first 4 l.line column h.line,
        le_at-next 2 8 l.address 8 file,
        le_at-next 2 4 l.file.0 4 line,
        le_at-next 2 4 l.line 0 column,
        le_at-only 2 l.column h.column,
      )

-- 43
module _ (n : InlineNode) where
  node-spread : node_payload n ≡ bytes_of 2 n.depth ++ (bytes_of 4 n.call_file.0 ++ (bytes_of 4 n.call_line ++ n.name))
  unfolding node_payload
  node-spread = simp append_assoc

  pub node-name : drop 10 (node_payload n) ≡ n.name
  node-name =
      let line = bytes_of 4 n.call_line ++ n.name in
      rw (node-spread, drop-bytes_of 2 n.depth 8 (bytes_of 4 n.call_file.0 ++ line), drop-bytes_of 4 n.call_file.0 4 line, drop-bytes_of 4 n.call_line 0 n.name)

  module _ (d : ℕ) (h : NodeFits d n) where
    pub node-depth : le_at 2 (node_payload n) 0 ≡ n.depth
    node-depth = rw (node-spread) (le_at-first 2 n.depth (bytes_of 4 n.call_file.0 ++ (bytes_of 4 n.call_line ++ n.name)) (omega (arith, h.shallow)))

    pub node-file : le_at 4 (node_payload n) 2 ≡ n.call_file.0
    node-file =
        let line = bytes_of 4 n.call_line ++ n.name in
        rw (node-spread, le_at-next 4 2 n.depth 0 (bytes_of 4 n.call_file.0 ++ line)) (le_at-first 4 n.call_file.0 line h.file)

    pub node-line : le_at 4 (node_payload n) 6 ≡ n.call_line
    node-line =
        let line = bytes_of 4 n.call_line ++ n.name in
        rw (node-spread, le_at-next 4 2 n.depth 4 (bytes_of 4 n.call_file.0 ++ line), le_at-next 4 4 n.call_file.0 0 line) (le_at-first 4 n.call_line n.name h.line)

-- 45
pub site-back : (s : CallSite) → SiteFits s → site_of (site_payload s) ≡ s
unfolding site_payload site_of
site-back s h =
    let rest : List ℕ = cond (is_empty s.pattern) 0 1 ∷ s.pattern in
    rw (le_at-first 8 s.return_offset rest h.offset, drop-bytes_of 8 s.return_offset 1 rest)

-- 40
module _ (f : FileEntry) where
  file-spread : file_payload f ≡ bytes_of 2 (length f.directory) ++ (f.directory ++ f.basename)
  unfolding file_payload
  file-spread = append_assoc (bytes_of 2 (length f.directory)) f.directory f.basename

  file-number : FileFits f → le_at 2 (file_payload f) 0 ≡ length f.directory
  file-number h = rw file-spread (le_at-first 2 (length f.directory) (f.directory ++ f.basename) (omega (arith, h, file-length f)))

  file-directory : take (length f.directory) (drop 2 (file_payload f)) ≡ f.directory
  file-directory = rw (file-spread, drop-bytes_of 2 (length f.directory) 0 (f.directory ++ f.basename)) (take-append_seam f.directory f.basename)

  file-basename : drop (2 + length f.directory) (file_payload f) ≡ f.basename
  file-basename = rw (file-spread, drop-bytes_of 2 (length f.directory) (length f.directory) (f.directory ++ f.basename)) (drop-append_seam f.directory f.basename)

pub file-back : (f : FileEntry) → FileFits f → file_entry_of (record { tag = 0x40; payload = file_payload f }) ≡ some f
unfolding file_entry_of
file-back f h =
    let n-is : le_at 2 (file_payload f) 0 ≡ length f.directory = file-number f h in
    let fits : 2 + length f.directory ≤ length (file_payload f) = omega (arith, file-length f) in
    rw (n-is, le-leb (2 + length f.directory) (length (file_payload f)) fits, file-directory f, file-basename f)

-- 46
kind-back : (kind : WarningKind) → kind_of (kind_number kind) ≡ some kind
unfolding kind_of kind_number
kind-back rejected_range = refl
kind-back invalid_statement_sequence = refl
kind-back line_sequence_mismatch = refl
kind-back missing_line_file = refl
kind-back unrepresentable_line = refl
kind-back missing_inline_call_file = refl
kind-back invalid_inline_call_line = refl
kind-back invalid_declaration_file = refl
kind-back invalid_declaration_line = refl

kind-above : (kind : WarningKind) → 3 ≤ kind_number kind
unfolding kind_number
kind-above rejected_range = omega arith
kind-above invalid_statement_sequence = omega arith
kind-above line_sequence_mismatch = omega arith
kind-above missing_line_file = omega arith
kind-above unrepresentable_line = omega arith
kind-above missing_inline_call_file = omega arith
kind-above invalid_inline_call_line = omega arith
kind-above invalid_declaration_file = omega arith
kind-above invalid_declaration_line = omega arith

about-back : (kind : WarningKind) (a b : ℕ) → a < 2 ^ 64 → b < 2 ^ 64
    → warning_of (record { tag = 0x46; payload = warning_payload (about kind a b) }) ≡ some (about kind a b)
unfolding warning_of warning_payload map_option
about-back kind a b h k =
    let high = kind-above kind in
    let second = bytes_of 8 b in
    let rest = bytes_of 8 a ++ second in
    rw (
      le_at-byte (kind_number kind) rest,
      le_at-tail 8 (kind_number kind) 0 rest,
      le_at-tail 8 (kind_number kind) 8 rest,
      le_at-first 8 a second h,
      le_at-next 8 8 a 0 second,
      le_at-only 8 b k,
      le-leb 1 (suc (length rest)) (omega arith),
      about-length kind a b,
      ne_eqb (kind_number kind) 1 (omega arith),
      ne_eqb (kind_number kind) 2 (omega arith),
      kind-back kind,
    )

pub warning_back : (w : Warning) → WarningFits w → warning_of (record { tag = 0x46; payload = warning_payload w }) ≡ some w
unfolding warning_of warning_payload
warning_back (malformed_ranges true reason) h = rw (le_at-byte 2 reason, le-leb 1 (suc (length reason)) (omega arith))
warning_back (malformed_ranges false reason) h = rw (le_at-byte 1 reason, le-leb 1 (suc (length reason)) (omega arith))
warning_back (about kind a b) h = about-back kind a b h.0 h.1
