-- Definition. Fields (document 01, "The sheet"): a one-byte tag, a two-byte length, the payload. Sheets and trays are rows of them.
use Rattle.std.specs.Prelude.{List, [], ◌∷◌, ◌++◌, cond, ℕ, zero, suc, leb, eqb, length, take}
use Rattle.std.proofs.Math.Option.{Option, none, some}
use Rattle.tlv.specs.Bytes.{le, bytes_of}

pub record Field : Type 0 where
  pub tag : ℕ
  pub payload : List ℕ

-- what a byte string holds: fields, and then its end, or a field that is cut off
pub data FieldList : Type 0 where
  end : FieldList
  cut : FieldList
  more : Field → FieldList → FieldList

-- the fields of a byte string of which k bytes are to be passed over first
unfoldable pub fields_from : ℕ → List ℕ → FieldList
fields_from zero [] = end
fields_from zero (t ∷ []) = cut
fields_from zero (t ∷ a ∷ []) = cut
fields_from zero (t ∷ a ∷ b ∷ rest) =
    let n = le (a ∷ b ∷ []) in
    let whole = more (record { tag = t; payload = take n rest }) (fields_from n rest) in
    cond (leb n (length rest)) whole cut
fields_from (suc k) [] = end
fields_from (suc k) (x ∷ rest) = fields_from k rest

abbrev pub fields : List ℕ → FieldList
fields s = fields_from 0 s

-- the fields that are whole
unfoldable pub whole_fields : FieldList → List Field
whole_fields end = []
whole_fields cut = []
whole_fields (more f fs) = f ∷ whole_fields fs

-- the bytes of a field
unfoldable pub encode : ℕ → List ℕ → List ℕ
encode tag payload = (tag ∷ []) ++ bytes_of 2 (length payload) ++ payload

-- Fields in groups: each begins with a field of one tag and has the fields up to the next of that tag. What stands before the first is apart.
pub record Group : Type 0 where
  pub head : Field
  pub rest : List Field

pub record Groups : Type 0 where
  pub before : List Field
  pub groups : List Group

abbrev pub join_group : ℕ → Field → Groups → Groups
join_group t f g = cond (eqb f.tag t)
    (record { before = []; groups = record { head = f; rest = g.before } ∷ g.groups })
    (record { before = f ∷ g.before; groups = g.groups })

unfoldable pub grouped : ℕ → List Field → Groups
grouped t [] = record { before = []; groups = [] }
grouped t (f ∷ fs) = join_group t f (grouped t fs)

-- the payloads of the fields of a tag
unfoldable pub payloads : ℕ → List Field → List (List ℕ)
payloads t [] = []
payloads t (f ∷ fs) = cond (eqb f.tag t) (f.payload ∷ payloads t fs) (payloads t fs)

abbrev pub head_of : List (List ℕ) → Option (List ℕ)
head_of [] = none
head_of (p ∷ ps) = some p

-- the payload of the first field of a tag
unfoldable pub payload_of : ℕ → List Field → Option (List ℕ)
payload_of t fs = head_of (payloads t fs)

-- how many whole fields of a tag the bytes have
abbrev pub count_of : ℕ → List ℕ → ℕ
count_of tag s = length (payloads tag (whole_fields (fields s)))
