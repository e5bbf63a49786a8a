-- Theorem. E9 by cases: imports of a unit with a range list, of the subprogram "d" or of an inlined entry below it.
use Rattle.std.specs.Prelude.{ℕ, ◌+◌, ◌*◌, ◌-◌, ◌^◌, ◌≡◌, true, List, [], ◌∷◌, ◌++◌, map, length, replicate}
use Rattle.tlv.specs.Tags.{attribute_tag, entry_tag, failure_tag, list_tag, range_tag, text_tag, unit_tag}
use Rattle.tlv.specs.Constants.{dw_at_name, dw_tag_inlined_subroutine, dw_tag_subprogram}
use Rattle.tlv.specs.Bytes.{bytes_of}
use Rattle.tlv.specs.Limits.{work_of_field, work_besides}
use Rattle.tlv.specs.Fields.{encode}
use Rattle.imports.specs.Answer.{Inputs, no_stats, Answer, after}
use Rattle.imports.specs.Sizes.{measure}

-- ---- the sheets

-- 10 of a version, and 12: text from 1000 to 2000 hex
abbrev pub head : ℕ → List ℕ
head version = encode unit_tag (bytes_of 8 0 ++ bytes_of 8 100 ++ (version ∷ 4 ∷ [])) ++ encode text_tag (bytes_of 8 0x1000 ++ bytes_of 8 0x2000)

-- 17 of a tag at a depth, at an offset
abbrev pub entry : ℕ → ℕ → ℕ → List ℕ
entry offset depth tag = encode entry_tag (bytes_of 8 offset ++ bytes_of 2 depth ++ bytes_of 2 tag)

-- 18: a name of one letter
abbrev pub named : ℕ → List ℕ
named letter = encode attribute_tag (bytes_of 2 dw_at_name ++ (3 ∷ letter ∷ []))

-- 19 from 1000 to 1010 hex, and 1a
abbrev pub range : List ℕ
range = encode range_tag (bytes_of 8 0x1000 ++ bytes_of 8 0x1010 ++ (0 ∷ []))

abbrev pub failure : List ℕ
failure = encode failure_tag (1 ∷ [])

-- 1f: the list at an offset, base address 1000 hex, addresses from the table's start on, of so many bytes
abbrev pub list_of : ℕ → ℕ → List ℕ
list_of offset size = encode list_tag (bytes_of 8 offset ++ bytes_of 8 0x1000 ++ bytes_of 8 0 ++ (size ∷ []))

-- the subprogram "d", with these fields for its ranges
abbrev pub subprogram : List ℕ → List ℕ
subprogram ranges = entry 20 0 dw_tag_subprogram ++ named 0x64 ++ ranges

-- it with a range, and an inlined entry below it with these fields
abbrev pub above : List ℕ → List ℕ
above fields = subprogram range ++ entry 30 1 dw_tag_inlined_subroutine ++ fields

-- ---- the list section and the address table

-- from 1000 to 1010 hex by indices: whole; then an entry of no kind; an index past the table; a start that is all ones; an offset pair that passes 32 bits
abbrev pub whole : ℕ
whole = 0

abbrev pub unknown : ℕ
unknown = 4

abbrev pub past_table : ℕ
past_table = 8

abbrev pub dead : ℕ
dead = 12

abbrev pub wide : ℕ
wide = 16

abbrev pub lists : List ℕ
lists =
    2 ∷ 0 ∷ 1 ∷ 0 ∷  -- startx_endx 0 1, end of list
    2 ∷ 0 ∷ 1 ∷ 8 ∷  -- startx_endx 0 1, no kind
    2 ∷ 0 ∷ 3 ∷ 0 ∷  -- startx_endx 0 3
    3 ∷ 2 ∷ 4 ∷ 0 ∷  -- startx_length 2 4, end of list
    4 ∷ 0 ∷ 0x80 ∷ 0x80 ∷ 0x80 ∷ 0x80 ∷ 0x10 ∷ 0 ∷ []  -- offset_pair 0 2^32, end of list

abbrev pub addresses : List ℕ
addresses = bytes_of 4 0x1000 ++ bytes_of 4 0x1010 ++ bytes_of 4 (2 ^ 32 - 1)

-- ---- the calls

abbrev pub call : List ℕ → List ℕ → ℕ → Inputs
call main supplementary work = record {
  main = main;
  supplementary = supplementary;
  program = [];
  lists = lists;
  addresses = addresses;
  ordinal = 0;
  inlines = true;
  call_sites = true;
  first_file = 1;
  work = replicate work 0;
  records = replicate 200 0;
  files = [];
  warnings = replicate 100 0;
}

-- a version 5 unit with these entries
abbrev pub answer : List ℕ → Answer
answer entries = (after (call (head 5 ++ entries) [] 40000)).answer

abbrev pub refused_by : ℕ → Answer
refused_by n = record { refusal = n; records = 0; files = 0; warnings = 0; stats = no_stats }

abbrev pub gives : ℕ → ℕ → ℕ → ℕ → ℕ → Answer
gives records warnings functions nodes rejected = record {
  refusal = 0;
  records = records;
  files = 0;
  warnings = warnings;
  stats = record { functions = functions; line_rows = 0; inline_nodes = nodes; rejected_ranges = rejected };
}

pub record ListCase : Type 0 where
  pub given : Answer
  pub answer : Answer

abbrev pub case : Answer → Answer → ListCase
case given is = record { given = given; answer = is }

-- a subprogram's list: "the same ranges as 19 fields"; a fault warns with its number
abbrev pub subprograms : List ListCase
subprograms =
    case (answer (subprogram range)) (gives 20 0 1 0 0)
    ∷ case (answer (subprogram (list_of whole 4))) (gives 20 0 1 0 0)
    ∷ case (answer (subprogram (list_of unknown 4))) (gives 20 6 1 0 1)  -- the range before the fault is imported; the reason is 23
    ∷ case (answer (subprogram (list_of past_table 4))) (gives 0 6 0 0 1)
    ∷ case (answer (subprogram (list_of wide 4))) (gives 0 6 0 0 1)
    ∷ case (answer (subprogram (list_of (2 ^ 64 - 1) 4))) (gives 0 6 0 0 1)  -- past the section
    ∷ case (answer (subprogram (list_of dead 4))) (gives 0 0 0 0 1)  -- a tombstone outside all text is rejected without warning
    ∷ case (answer (entry 20 0 dw_tag_subprogram ++ list_of unknown 4)) (gives 0 0 0 0 0)  -- nameless
    ∷ case (answer (entry 20 0 0x0b ++ list_of unknown 4)) (gives 0 0 0 0 0)  -- of another tag
    ∷ []

-- an inlined entry's: "for a named inlined entry it refuses the import under that number"
abbrev pub inlined : List ListCase
inlined =
    case (answer (above (named 0x69 ++ range))) (gives 86 0 1 1 0)
    ∷ case (answer (above (named 0x69 ++ list_of whole 4))) (gives 86 0 1 1 0)
    ∷ case (answer (above (named 0x69 ++ list_of unknown 4))) (refused_by 23)
    ∷ case (answer (above (named 0x69 ++ list_of past_table 4))) (refused_by 24)
    ∷ case (answer (above (named 0x69 ++ list_of wide 4))) (refused_by 25)
    ∷ case (answer (above (named 0x69 ++ list_of wide 8))) (gives 20 0 1 0 0)  -- fits eight bytes, and passes the function's range
    ∷ case (answer (above (named 0x69 ++ failure))) (refused_by 6)
    ∷ case (answer (above (list_of unknown 4))) (gives 20 0 1 0 0)  -- nameless
    ∷ case (measure (call (head 5 ++ above (named 0x69 ++ list_of unknown 4)) [] 40000)).answer (refused_by 23)  -- the pass
    ∷ []

-- the field
abbrev pub shapes : List ListCase
shapes =
    case (after (call (head 4 ++ subprogram (list_of whole 4)) [] 40000)).answer (refused_by 2)  -- "1f is misshapen in others"
    ∷ case (answer (subprogram (list_of whole 2))) (refused_by 2)
    ∷ case (answer (subprogram (encode list_tag (replicate 24 0)))) (refused_by 2)
    ∷ case (answer (subprogram (range ++ list_of whole 4))) (refused_by 2)  -- "in place of 19 and 1a"
    ∷ case (answer (subprogram (failure ++ list_of whole 4))) (refused_by 2)
    ∷ case (answer (subprogram (list_of whole 4 ++ range))) (refused_by 2)
    ∷ case (answer (subprogram (list_of whole 4 ++ failure))) (refused_by 2)
    ∷ case (answer (subprogram (list_of whole 4 ++ list_of whole 4))) (refused_by 2)
    ∷ case (answer (subprogram (list_of whole 4 ++ named 0x64))) (refused_by 2)
    ∷ case (after (call (head 5 ++ subprogram range) (head 4 ++ subprogram (list_of whole 4)) 40000)).answer (refused_by 2)  -- in both sheets
    ∷ case (after (call (head 5 ++ subprogram range) (head 5 ++ subprogram (list_of unknown 4)) 40000)).answer (gives 20 0 1 0 0)  -- not read there
    ∷ []

-- the work length: two fields 1f, of whatever entry
abbrev pub two_lists : List ℕ
two_lists = head 5 ++ subprogram (list_of whole 4) ++ entry 30 1 0x0b ++ list_of unknown 4

abbrev pub needed_work : ℕ
needed_work = work_of_field * 7 + work_besides + 8 * length lists * 2

abbrev pub works : List ListCase
works =
    case (after (call two_lists [] needed_work)).answer (gives 20 0 1 0 0)
    ∷ case (after (call two_lists [] (needed_work - 1))).answer (refused_by 5)
    ∷ []

abbrev pub list_cases : List ListCase
list_cases = subprograms ++ inlined ++ shapes ++ works

abbrev pub ListCases : Type 0
ListCases = map (λ c. c.given) list_cases ≡ map (λ c. c.answer) list_cases
