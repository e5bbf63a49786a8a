-- Contract. What stands at a place of a byte string: the contract of the field cursor.
use Rattle.std.specs.Prelude.{Option, Some, None, cond, List, ℕ, ◌+◌, ◌-◌, leb, ltb, length, take, drop, get_or}
use Rattle.tlv.specs.declared.fields.FieldSpan.{FieldSpan}
use Rattle.tlv.specs.Bytes.{le_at}
use Rattle.tlv.specs.Fields.{FieldList, end, cut, more, fields}

-- what stands at a place: a field, by its tag, where its payload begins, how long that is and where the next field begins; a field that runs past the end;
-- or nothing
pub data Step : Type 0 where
  field_here : ℕ → ℕ → ℕ → ℕ → Step
  cut_short : Step
  nothing_left : Step

unfoldable pub step_at : List ℕ → ℕ → Step
step_at s p =
    let n = le_at 2 s (p + 1) in
    cond (leb (length s) p) nothing_left
    (cond (ltb (length s - p) 3) cut_short
    (cond (leb n (length s - (p + 3))) (field_here (get_or s p 0) (p + 3) n (p + 3 + n)) cut_short))

-- the fields that a step begins
abbrev pub fields_of : List ℕ → Step → FieldList
fields_of s nothing_left = end
fields_of s cut_short = cut
fields_of s (field_here t start n next) = more (record { tag = t; payload = take n (drop start s) }) (fields (drop next s))

-- the field of a step: none at the end, nor where it is cut
unfoldable pub span_of : Step → Option FieldSpan
span_of nothing_left = None
span_of cut_short = None
span_of (field_here t start n next) = Some (record { tag = t; start = start; len = n; next = next })

abbrev pub field_from : List ℕ → ℕ → Option FieldSpan
field_from s p = span_of (step_at s p)
