-- Theorem. What a tray's fields can hold, and that reading a tray gives back what was written (document 01, "Trays use the same field shape").
use Rattle.std.specs.Prelude.{ℕ, suc, ◌^◌, ◌≤◌, ◌<◌, ◌≡◌, ◌⊎◌, ◌≢◌, List, [], ◌∷◌, length}
use Rattle.std.proofs.Math.Option.{some}
use Rattle.tlv.specs.declared.model.AddressRange.{AddressRange}
use Rattle.tlv.specs.declared.model.LineEntry.{LineEntry}
use Rattle.tlv.specs.Lists.{All}
use Rattle.buffers.specs.Output.{FileEntry, InlineNode, CallSite, Function, Warning, malformed_ranges, about, records_bytes, files_bytes, warnings_bytes}
use Rattle.buffers.specs.Output.{function_payload, node_payload, site_payload, file_payload, warning_payload}
use Rattle.buffers.specs.Reader.{read_records, read_files, read_warnings}

-- a payload's length fits its two bytes
abbrev pub Short : List ℕ → Type 0
Short payload = length payload < 2 ^ 16

pub record RangeFits (r : AddressRange) : Type 0 where
  pub filled : r.start < r.end
  pub small : r.end < 2 ^ 64

pub record LineFits (l : LineEntry) : Type 0 where
  pub address : l.address < 2 ^ 64
  pub file : l.file.0 < 2 ^ 32
  pub line : l.line < 2 ^ 32
  pub column : l.column < 2 ^ 16

-- a node where the largest depth is d
pub record NodeFits (d : ℕ) (n : InlineNode) : Type 0 where
  pub deep : (d ≡ 0) ⊎ (1 ≤ n.depth)
  pub next : n.depth ≤ d
  pub shallow : n.depth ≤ 256
  pub file : n.call_file.0 < 2 ^ 32
  pub line : n.call_line < 2 ^ 32
  pub short : Short (node_payload n)
  pub filled : n.ranges ≢ []
  pub ranges : All RangeFits n.ranges

-- nodes in preorder, the first at most d deep
abbrev pub NodesFit : ℕ → List InlineNode → Type 0
NodesFit d [] = Unit {0}
NodesFit d (n ∷ ns) = NodeFits d n × NodesFit (suc n.depth) ns

pub record SiteFits (s : CallSite) : Type 0 where
  pub offset : s.return_offset < 2 ^ 64
  pub short : Short (site_payload s)

pub record FunctionFits (f : Function) : Type 0 where
  pub range : RangeFits f.range
  pub short : Short (function_payload f.range f.name)
  pub lines : All LineFits f.lines
  pub inline : NodesFit 0 f.inline
  pub call_sites : All SiteFits f.call_sites

abbrev pub FileFits : FileEntry → Type 0
FileFits f = Short (file_payload f)

abbrev pub WarningFits : Warning → Type 0
WarningFits (malformed_ranges stopped reason) = Short (warning_payload (malformed_ranges stopped reason))
WarningFits (about kind a b) = (a < 2 ^ 64) × (b < 2 ^ 64)

-- what fits is read back
pub record ReadBack : Type 0 where
  pub records : (fs : List Function) → All FunctionFits fs → read_records (records_bytes fs) ≡ some fs
  pub files : (fs : List FileEntry) → All FileFits fs → read_files (files_bytes fs) ≡ some fs
  pub warnings : (ws : List Warning) → All WarningFits ws → read_warnings (warnings_bytes ws) ≡ some ws
