-- The counts of searches on small webs, by computing.
use Prim.Native.Nat.{ℕ, ◌+◌, ◌*◌}
use mathlib.Core.Path.{◌≡◌, refl}
use mathlib.Core.Bool.{true}
use mathlib.Core.List.{List, [], ◌∷◌}
use mathlib.Core.Option.{none, some}
use Rattle.tlv.specs.Outcome.{refused, ◌>>=◌}
use Rattle.tlv.specs.Lists.{first, exists, filter}
use Rattle.tlv.specs.Model.{CompilationUnit, Entry, Attribute, LineHeader}
use Rattle.paths.specs.Paths.{file_entry}
use Rattle.lines.specs.Files.{FileTable, intern_file, intern_header_files, intern_files}
use Rattle.references.specs.Search.{Dwarf, empty_trail, units_in, is_visited, attribute, absolute_entry_offset, entry_at, unit_containing, follow_absolute}
use Rattle.references.specs.Search.{follow_unit, follow, own_name, place_in, own_declaration, unsigned_attribute, file_index_attribute}
use Rattle.references.specs.Reads.{counted_referenced_name, counted_name, counted_reference_name, counted_referenced_declaration, counted_declaration, name_reads}
use Rattle.references.specs.Reads.{reference_name_reads, declaration_reads, entry_references, reference_attributes}

abbrev attr : ℕ → ℕ → ℕ → Attribute
attr name kind value = record { name = name; kind = kind; value = value; text = [] }

-- a name that is no string
abbrev bad : Attribute
bad = attr 0x03 1 7

abbrev entry : ℕ → List Attribute → Entry
entry offset attributes = record { offset = offset; depth = 1; tag = 0x2e; attributes = attributes; ranges = []; failure = none; list = none }

abbrev unit : ℕ → List Entry → CompilationUnit
unit offset entries = record {
  offset = offset;
  length = 10;
  version = 5;
  word_size = 4;
  directory = none;
  text = [];
  header = none;
  encoding = none;
  part = none;
  directories = [];
  file_zero = none;
  files = [];
  rows = [];
  entries = entries;
  lists = 0;
}

abbrev alone : List Entry → Dwarf
alone entries = record { main = unit 0 entries ∷ []; supplementary = []; lists = []; addresses = [] }

abbrev no-files : FileTable
no-files = record { entries = []; first = 1 }

-- two entries in a ring: the start, the other, and the start once more, as a target. 1 plus the number of reference attributes, which is as near to the first
-- bound as a search comes (possible-few); for a declaration too
ring : List Entry
ring = entry 1 (attr 0x31 4 2 ∷ []) ∷ entry 2 (attr 0x31 4 1 ∷ []) ∷ []

ring-reads : name_reads (alone ring) (unit 0 ring) (entry 1 (attr 0x31 4 2 ∷ [])) ≡ 3
unfolding ring name_reads counted_name counted_referenced_name own_name attribute first follow follow_unit absolute_entry_offset entry_at is_visited exists ◌>>=◌
ring-reads = refl

ring-declared : declaration_reads (alone ring) (unit 0 ring) (entry 1 (attr 0x31 4 2 ∷ [])) [] no-files [] ≡ 3
unfolding ring declaration_reads counted_declaration counted_referenced_declaration own_declaration file_index_attribute unsigned_attribute attribute first follow follow_unit absolute_entry_offset entry_at is_visited exists ◌>>=◌
ring-declared = refl

ring_references : reference_attributes (alone ring).main ≡ 2
unfolding ring reference_attributes entry_references filter
ring_references = refl

-- a target that was followed before is not read again; one outside all units is not read; nor is one where no entry starts
twice : List Entry
twice = entry 1 (attr 0x31 4 2 ∷ attr 0x47 4 2 ∷ []) ∷ entry 2 [] ∷ []

twice-reads : name_reads (alone twice) (unit 0 twice) (entry 1 (attr 0x31 4 2 ∷ attr 0x47 4 2 ∷ [])) ≡ 2
unfolding twice name_reads counted_name counted_referenced_name own_name attribute first follow follow_unit absolute_entry_offset entry_at is_visited exists ◌>>=◌
twice-reads = refl

outside : List Entry
outside = entry 1 (attr 0x31 5 99 ∷ attr 0x47 4 3 ∷ []) ∷ []

outside-reads : counted_name 64 (alone outside) (place_in (unit 0 outside) (entry 1 (attr 0x31 5 99 ∷ attr 0x47 4 3 ∷ []))) empty_trail
    ≡ record { reads = 1; outcome = refused 13 }
unfolding outside counted_name counted_referenced_name own_name attribute first follow follow_unit follow_absolute absolute_entry_offset entry_at unit_containing units_in is_visited exists ◌>>=◌
outside-reads = refl

-- a limit of 2 in place of 64: the last target is read and yields nothing
chain : List Entry
chain = entry 1 (attr 0x31 4 2 ∷ []) ∷ entry 2 (attr 0x31 4 3 ∷ []) ∷ entry 3 (attr 0x31 4 4 ∷ []) ∷ entry 4 [] ∷ []

chain-reads : (counted_name 2 (alone chain) (place_in (unit 0 chain) (entry 1 (attr 0x31 4 2 ∷ []))) empty_trail).reads ≡ 3
unfolding chain counted_name counted_referenced_name own_name attribute first follow follow_unit absolute_entry_offset entry_at is_visited exists ◌>>=◌
chain-reads = refl

-- a search that is refused has its count too: the start, and the entry whose name is no string
spoiled : List Entry
spoiled = entry 1 (attr 0x31 4 2 ∷ []) ∷ entry 2 (bad ∷ []) ∷ []

spoiled-reads : counted_name 64 (alone spoiled) (place_in (unit 0 spoiled) (entry 1 (attr 0x31 4 2 ∷ []))) empty_trail ≡ record { reads = 2; outcome = refused 6 }
unfolding spoiled counted_name counted_referenced_name own_name attribute first follow follow_unit absolute_entry_offset entry_at is_visited exists ◌>>=◌
spoiled-reads = refl

-- a call site's origin: its start is the site
site-reads : reference_name_reads (alone spoiled) (unit 0 spoiled) (entry 5 (attr 0x7f 4 1 ∷ [])) 0x7f ≡ 3
unfolding spoiled reference_name_reads counted_reference_name counted_name counted_referenced_name own_name attribute first follow follow_unit absolute_entry_offset entry_at is_visited exists ◌>>=◌
site-reads = refl

no-site-reads : reference_name_reads (alone spoiled) (unit 0 spoiled) (entry 5 []) 0x7f ≡ 1
unfolding reference_name_reads counted_reference_name attribute first follow
no-site-reads = refl

-- no reference, and a supplementary sheet: the second bound is met
lone : Dwarf
lone = record { main = unit 0 (entry 1 [] ∷ []) ∷ []; supplementary = unit 0 (entry 1 [] ∷ []) ∷ []; lists = []; addresses = [] }

lone-reads : name_reads lone (unit 0 (entry 1 [] ∷ [])) (entry 1 []) ≡ 1 + 2 * (reference_attributes lone.main + reference_attributes lone.supplementary)
unfolding lone name_reads counted_name counted_referenced_name own_name attribute first follow reference_attributes entry_references filter ◌>>=◌
lone-reads = refl

-- a ring through the supplementary sheet: its entries are read as supplementary targets, and again as main ones behind the section reference that closes it
abbrev start : Entry
start = entry 1 (attr 0x31 6 1 ∷ [])

abbrev into : List Entry → Dwarf
into there = record { main = unit 20 (start ∷ []) ∷ []; supplementary = unit 0 there ∷ []; lists = []; addresses = [] }

-- of two: 5 of 3 attributes, 2 below the second bound. No web of 2 or more attributes comes nearer: one stands in the main sheet and makes one target,
-- and so does a section reference of the supplementary sheet, without which nothing there is followed as a main target too
abbrev two : List Entry
two = entry 1 (attr 0x31 4 2 ∷ []) ∷ entry 2 (attr 0x31 5 1 ∷ []) ∷ []

through-reads : name_reads (into two) (unit 20 (start ∷ [])) start ≡ 5
unfolding name_reads counted_name counted_referenced_name own_name attribute first follow follow_unit follow_absolute absolute_entry_offset entry_at unit_containing units_in is_visited exists ◌>>=◌
through-reads = refl

through-declared : declaration_reads (into two) (unit 20 (start ∷ [])) start [] no-files [] ≡ 5
unfolding declaration_reads counted_declaration counted_referenced_declaration own_declaration file_index_attribute unsigned_attribute attribute first follow follow_unit follow_absolute absolute_entry_offset entry_at unit_containing units_in is_visited exists ◌>>=◌
through-declared = refl

through_references : reference_attributes (into two).main + reference_attributes (into two).supplementary ≡ 3
unfolding reference_attributes entry_references filter
through_references = refl

-- of five: 11 of 6
abbrev five : List Entry
five =
    entry 1 (attr 0x31 4 2 ∷ [])
    ∷ entry 2 (attr 0x47 4 3 ∷ [])
    ∷ entry 3 (attr 0x31 4 4 ∷ [])
    ∷ entry 4 (attr 0x47 4 5 ∷ [])
    ∷ entry 5 (attr 0x31 5 1 ∷ [])
    ∷ []

five-reads : name_reads (into five) (unit 20 (start ∷ [])) start ≡ 11
unfolding name_reads counted_name counted_referenced_name own_name attribute first follow follow_unit follow_absolute absolute_entry_offset entry_at unit_containing units_in is_visited exists ◌>>=◌
five-reads = refl

five_references : reference_attributes (into five).main + reference_attributes (into five).supplementary ≡ 6
unfolding reference_attributes entry_references filter
five_references = refl

-- an entry whose unit's files refuse was read: a declaration behind a section reference, in a unit with a failed file
abbrev header : LineHeader
header = record { offset = 0; header_length = 0; version = 5; word_size = 4; opcode_base = 1; opcode_lengths = [] }

abbrev failing : CompilationUnit
failing = record {
  offset = 20;
  length = 10;
  version = 5;
  word_size = 4;
  directory = none;
  text = [];
  header = some header;
  encoding = none;
  part = none;
  directories = [];
  file_zero = none;
  files = record { failed = true; directory = 0; path = [] } ∷ [];
  rows = [];
  entries = entry 3 [] ∷ [];
  lists = 0;
}

abbrev reaching : Entry
reaching = entry 1 (attr 0x47 5 23 ∷ [])

abbrev files-refuse : Dwarf
files-refuse = record { main = unit 0 (reaching ∷ []) ∷ failing ∷ []; supplementary = []; lists = []; addresses = [] }

files-refuse-reads : declaration_reads files-refuse (unit 0 (reaching ∷ [])) reaching [] no-files [] ≡ 2
unfolding declaration_reads counted_declaration counted_referenced_declaration own_declaration file_index_attribute unsigned_attribute attribute first follow follow_absolute entry_at unit_containing units_in is_visited exists intern_header_files intern_files intern_file file_entry ◌>>=◌
files-refuse-reads = refl
