-- Bytes that spell fields: what encodings one after the other are read as.
use mathlib.Core.Path.{◌≡◌, refl, sym, ap, ◌∙◌}
use mathlib.Core.List.{List, [], ◌∷◌, ◌++◌, append-nil, append_assoc}
use Prim.Native.Nat.{ℕ, ◌/◌, ◌%◌, ◌≤◌}
use native.Mathlib.Omega.{arith}
use lib.ListN.{length, length-append}
use lib.Seq.{take-append_seam, drop-append_seam}
use borrow.Author.Tests.{le-leb}
use Rattle.tlv.specs.Lists.{All}
use Rattle.tlv.specs.Bytes.{le, bytes_of}
use Rattle.tlv.specs.Fields.{Field, FieldList, end, more, fields_from, fields, whole_fields, encode}
use Rattle.tlv.proofs.CursorLaws.{fields_from-drop}
use Rattle.buffers.specs.Output.{each_of}
use Rattle.buffers.specs.Fits.{Short}

-- ---- reading fields

-- passing over just what stands in front
pub fields_from-seam : (p rest : List ℕ) → fields_from (length p) (p ++ rest) ≡ fields rest
fields_from-seam p rest = rw (fields_from-drop (length p) (p ++ rest), drop-append_seam p rest)

-- three bytes and a payload of the length that they say
pub fields-whole : (t a b : ℕ) (p rest : List ℕ) → le (a ∷ b ∷ []) ≡ length p
    → fields (t ∷ a ∷ b ∷ (p ++ rest)) ≡ more (record { tag = t; payload = p }) (fields rest)
unfolding fields_from
fields-whole t a b p rest e =
    let fits : length p ≤ length (p ++ rest) = rw length-append (omega arith) in
    rw (e, le-leb (length p) (length (p ++ rest)) fits, take-append_seam p rest, fields_from-seam p rest)

-- an encoded field is read as that field
pub fields-encode : (t : ℕ) (p rest : List ℕ) → Short p → fields (encode t p ++ rest) ≡ more (record { tag = t; payload = p }) (fields rest)
unfolding encode bytes_of
fields-encode t p rest h = fields-whole t (length p % 256) (length p / 256 % 256) p rest (omega arith)

-- ---- bytes that spell fields

-- the fields xs, and then those that follow
abbrev pub prepend : List Field → FieldList → FieldList
prepend [] fs = fs
prepend (x ∷ xs) fs = more x (prepend xs fs)

pub prepend_append : (xs ys : List Field) (fs : FieldList) → prepend (xs ++ ys) fs ≡ prepend xs (prepend ys fs)
prepend_append [] ys fs = refl
prepend_append (x ∷ xs) ys fs = ap (more x) (prepend_append xs ys fs)

pub whole-prepend : (xs : List Field) (fs : FieldList) → whole_fields (prepend xs fs) ≡ xs ++ whole_fields fs
unfolding whole_fields
whole-prepend [] fs = refl
whole-prepend (x ∷ xs) fs = ap (λ (l : List Field). x ∷ l) (whole-prepend xs fs)

-- the whole fields of no more than xs are xs
pub whole-only : (xs : List Field) → whole_fields (prepend xs end) ≡ xs
unfolding whole_fields
whole-only xs = whole-prepend xs end ∙ append-nil xs

-- these bytes are read as the fields xs, whatever follows
pub record Spells (bytes : List ℕ) (xs : List Field) : Type 0 where
  pub before : (rest : List ℕ) → fields (bytes ++ rest) ≡ prepend xs (fields rest)

pub spells-encode : (t : ℕ) (p : List ℕ) → Short p → Spells (encode t p) (record { tag = t; payload = p } ∷ [])
spells-encode t p h = record { before = λ rest. fields-encode t p rest h }

pub spells_append : {a b : List ℕ} {xs ys : List Field} → Spells a xs → Spells b ys → Spells (a ++ b) (xs ++ ys)
spells_append {a} {b} {xs} {ys} f g = record { before = λ rest. rw (append_assoc a b rest, f.before (b ++ rest), g.before rest, prepend_append xs ys (fields rest)) }

pub fields-spelled : {a : List ℕ} {xs : List Field} → Spells a xs → fields a ≡ prepend xs end
unfolding fields_from
fields-spelled {a} {xs} f = ap (λ (l : List ℕ). fields l) (sym (append-nil a)) ∙ f.before []

module _ {A : Type 0} where
  -- the fields of each, one after the other
  abbrev pub fields_of_each : (A → List Field) → List A → List Field
  fields_of_each g [] = []
  fields_of_each g (x ∷ xs) = g x ++ fields_of_each g xs

  -- a field of one tag for each
  abbrev pub tagged : ℕ → (A → List ℕ) → List A → List Field
  tagged t g [] = []
  tagged t g (x ∷ xs) = record { tag = t; payload = g x } ∷ tagged t g xs

  pub spells_each : (f : A → List ℕ) (g : A → List Field) (xs : List A) → All (λ x. Spells (f x) (g x)) xs → Spells (each_of f xs) (fields_of_each g xs)
  unfolding each_of
  spells_each f g [] h = record { before = λ rest. refl }
  spells_each f g (x ∷ xs) h = spells_append h.0 (spells_each f g xs h.1)

  pub spells-tagged : (t : ℕ) (g : A → List ℕ) (xs : List A) → All (λ x. Short (g x)) xs → Spells (each_of (λ x. encode t (g x)) xs) (tagged t g xs)
  unfolding each_of
  spells-tagged t g [] h = record { before = λ rest. refl }
  spells-tagged t g (x ∷ xs) h = spells_append (spells-encode t (g x) h.0) (spells-tagged t g xs h.1)
