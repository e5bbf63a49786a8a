-- A records tray with bare functions behind it is a records tray again, and is read as both.
use mathlib.Core.Path.{◌≡◌, refl, ◌∙◌}
use mathlib.Core.Bool.{Bool, true, false, cond, ◌&&◌, ◌||◌, not, false≢true}
use mathlib.Core.List.{List, [], ◌∷◌, ◌++◌, map}
use mathlib.Core.Option.{none, some, none-ne-some, some-injective}
use Prim.Native.Nat.{ℕ, zero, suc, ◌≤◌}
use native.Mathlib.Omega.{arith}
use lib.Dec.{leb, eqb}
use lib.ListN.{length, take, length-append}
use lib.Seq.{take-append-le}
use borrow.Author.Tests.{leb-true, le-leb, lt-ltb, not-true}
use Rattle.tlv.specs.Lists.{All, exists}
use Rattle.tlv.specs.Bytes.{le}
use Rattle.tlv.specs.Fields.{Field, FieldList, end, cut, more, fields_from, fields, whole_fields, Group, Groups, grouped, payloads, encode}
use Rattle.tlv.proofs.TestLaws.{and_left, and_right}
use Rattle.tlv.proofs.ListLaws.{all_map}
use Rattle.buffers.specs.Output.{Function, function_payload, each_of}
use Rattle.buffers.specs.Reader.{records_after, records_formed, depth_after, records_form, range_formed, function_of, read_records}
use Rattle.buffers.specs.Fits.{Short, RangeFits}
use Rattle.buffers.proofs.FieldLaws.{prepend, prepend_append, whole-only, Spells, spells_append, fields-spelled, tagged, spells-tagged}
use Rattle.buffers.proofs.PayloadLaws.{function-length, function-start, function-end, function-range, function-name}
use Rattle.symbols.specs.Symbols.{Symbol, bare_bytes}
use Rattle.symbols.specs.Join.{bare}

-- ---- bytes that end with a whole field spell their fields

abbrev Uncut : FieldList → Type 0
Uncut end = Unit {0}
Uncut cut = ⊥
Uncut (more f fs) = Uncut fs

module _ (rest : List ℕ) where
  appended : (k : ℕ) (l : List ℕ) → k ≤ length l → Uncut (fields_from k l) → fields_from k (l ++ rest) ≡ prepend (whole_fields (fields_from k l)) (fields rest)
  unfolding fields_from whole_fields
  appended zero [] h u = refl
  appended zero (t ∷ []) h u = absurd u
  appended zero (t ∷ a ∷ []) h u = absurd u
  appended zero (t ∷ a ∷ b ∷ l) h u = go (leb (le (a ∷ b ∷ [])) (length l)) refl u (appended (le (a ∷ b ∷ [])) l)
    where
      go : (c : Bool) → leb (le (a ∷ b ∷ [])) (length l) ≡ c
          → Uncut (cond c (more (record { tag = t; payload = take (le (a ∷ b ∷ [])) l }) (fields_from (le (a ∷ b ∷ [])) l)) cut)
          → (le (a ∷ b ∷ []) ≤ length l → Uncut (fields_from (le (a ∷ b ∷ [])) l)
          → fields_from (le (a ∷ b ∷ [])) (l ++ rest) ≡ prepend (whole_fields (fields_from (le (a ∷ b ∷ [])) l)) (fields rest))
          → cond (leb (le (a ∷ b ∷ [])) (length (l ++ rest)))
          (more (record { tag = t; payload = take (le (a ∷ b ∷ [])) (l ++ rest) }) (fields_from (le (a ∷ b ∷ [])) (l ++ rest))) cut
          ≡ prepend (whole_fields (cond c (more (record { tag = t; payload = take (le (a ∷ b ∷ [])) l }) (fields_from (le (a ∷ b ∷ [])) l)) cut)) (fields rest)
      go true e v ih =
          let fits : le (a ∷ b ∷ []) ≤ length l = leb-true _ _ e in
          let more-fits : le (a ∷ b ∷ []) ≤ length (l ++ rest) = rw length-append (omega arith) in
          rw (le-leb (le (a ∷ b ∷ [])) (length (l ++ rest)) more-fits, take-append-le (le (a ∷ b ∷ [])) l rest fits, ih fits v)
      go false e v ih = absurd v
  appended (suc k) [] h u = absurd (omega arith)
  appended (suc k) (x ∷ l) h u = appended k l (omega arith) u

pub spells_itself : (l : List ℕ) → Uncut (fields l) → Spells l (whole_fields (fields l))
unfolding fields_from
spells_itself l u = record { before = λ rest. appended rest 0 l (omega arith) u }

-- a records tray is not cut, and its form goes on
form-uncut : (previous d : ℕ) (fs : FieldList) → records_form previous d fs ≡ true → Uncut fs
unfolding records_form
form-uncut previous d end h = tt
form-uncut previous d cut h = false≢true h
form-uncut previous d (more f fs) h =
    form-uncut f.tag (depth_after d f) fs
    (and_right (exists (eqb f.tag) (records_after previous) && records_formed d f.tag f.payload) (records_form f.tag (depth_after d f) fs) h)

-- ---- bare functions behind a tray

abbrev pub payload_of : Symbol → List ℕ
payload_of s = function_payload s.range s.name

pub record Fits (s : Symbol) : Type 0 where
  pub range : RangeFits s.range
  pub short : Short (payload_of s)

-- a function may follow any field but a node
function-follows : (t : ℕ) → eqb t 0x43 ≡ false → exists (eqb 0x41) (records_after t) ≡ true
unfolding records_after exists
function-follows t e = rw e (go (eqb t 0x41 || eqb t 0x42) (eqb t 0x44) (eqb t 0x45))
  where
    go : (a b c : Bool)
        → exists (eqb 0x41) (cond a (0x41 ∷ 0x42 ∷ 0x43 ∷ 0x45 ∷ []) (cond false (0x44 ∷ [])
        (cond b (0x41 ∷ 0x43 ∷ 0x44 ∷ 0x45 ∷ []) (cond c (0x41 ∷ 0x45 ∷ []) (0x41 ∷ []))))) ≡ true
    go true b c = refl
    go false true c = refl
    go false false true = refl
    go false false false = refl

function-formed : (d : ℕ) (s : Symbol) → Fits s → records_formed d 0x41 (payload_of s) ≡ true
unfolding records_formed range_formed
function-formed d s h =
    rw (
      le-leb 16 (length (payload_of s)) (omega (arith, function-length s.range s.name)),
      function-start s.range h.range s.name,
      function-end s.range h.range s.name,
    )
    (lt-ltb s.range.start s.range.end h.range.filled)

bares-formed : (ss : List Symbol) → All Fits ss → (previous d : ℕ) → not (eqb previous 0x43) ≡ true
    → records_form previous d (prepend (tagged 0x41 payload_of ss) end) ≡ true
unfolding records_form
bares-formed [] h previous d e = e
bares-formed (s ∷ ss) h previous d e =
    rw (function-follows previous (not-true _ e), function-formed d s h.0)
    (bares-formed ss h.1 0x41 (depth_after d (record { tag = 0x41; payload = payload_of s })) refl)

tray-formed : (fs : FieldList) (ss : List Symbol) → All Fits ss → (previous d : ℕ) → records_form previous d fs ≡ true
    → records_form previous d (prepend (whole_fields fs) (prepend (tagged 0x41 payload_of ss) end)) ≡ true
unfolding records_form whole_fields
tray-formed end ss h previous d e = bares-formed ss h previous d e
tray-formed cut ss h previous d e = absurd (false≢true e)
tray-formed (more f fs) ss h previous d e =
    let both =
    and_left (exists (eqb f.tag) (records_after previous) && records_formed d f.tag f.payload) (records_form f.tag (depth_after d f) fs) e in
    let rest =
    and_right (exists (eqb f.tag) (records_after previous) && records_formed d f.tag f.payload) (records_form f.tag (depth_after d f) fs) e in
    rw both (tray-formed fs ss h f.tag (depth_after d f) rest)

-- ---- the groups

abbrev bare_group : Symbol → Group
bare_group s = record { head = record { tag = 0x41; payload = payload_of s }; rest = [] }

bares-grouped : (ss : List Symbol) → grouped 0x41 (tagged 0x41 payload_of ss) ≡ record { before = []; groups = map bare_group ss }
unfolding grouped
bares-grouped [] = refl
bares-grouped (s ∷ ss) = rw (bares-grouped ss)

both-grouped : (xs : List Field) (ss : List Symbol)
    → grouped 0x41 (xs ++ tagged 0x41 payload_of ss) ≡ record { before = (grouped 0x41 xs).before; groups = (grouped 0x41 xs).groups ++ map bare_group ss }
unfolding grouped
both-grouped [] ss = bares-grouped ss
both-grouped (x ∷ xs) ss = rw (both-grouped xs ss) (go (eqb x.tag 0x41))
  where
    given : Bool → Groups
    given b = cond b (record { before = []; groups = record { head = x; rest = (grouped 0x41 xs).before } ∷ ((grouped 0x41 xs).groups ++ map bare_group ss) })
        (record { before = x ∷ (grouped 0x41 xs).before; groups = (grouped 0x41 xs).groups ++ map bare_group ss })

    own : Bool → Groups
    own b = cond b (record { before = []; groups = record { head = x; rest = (grouped 0x41 xs).before } ∷ (grouped 0x41 xs).groups })
        (record { before = x ∷ (grouped 0x41 xs).before; groups = (grouped 0x41 xs).groups })

    made : Bool → Groups
    made b = record { before = (own b).before; groups = (own b).groups ++ map bare_group ss }

    go : (b : Bool) → given b ≡ made b
    go true = refl
    go false = refl

bare-back : (s : Symbol) → Fits s → function_of (bare_group s) ≡ bare s
unfolding function_of payloads grouped
bare-back s h = rw (function-range s.range h.range s.name, function-name s.range s.name)

bares-back : (ss : List Symbol) → All Fits ss → map function_of (map bare_group ss) ≡ map bare ss
bares-back [] h = refl
bares-back (s ∷ ss) h = rw (bare-back s h.0, bares-back ss h.1)

pub map-append : {A B : Type 0} (f : A → B) (xs ys : List A) → map f (xs ++ ys) ≡ map f xs ++ map f ys
map-append f [] ys = refl
map-append f (x ∷ xs) ys = rw (map-append f xs ys)

-- what is read of a tray with bare functions behind it
pub reads-joined : (tray : List ℕ) (ss : List Symbol) (fs : List Function) → All Fits ss → read_records tray ≡ some fs
    → read_records (tray ++ bare_bytes ss) ≡ some (fs ++ map bare ss)
unfolding read_records bare_bytes
reads-joined tray ss fs h e = go (records_form 0 0 (fields tray)) refl e
  where
    xs : List Field
    xs = whole_fields (fields tray)

    go : (b : Bool) → records_form 0 0 (fields tray) ≡ b → cond b (some (map function_of (grouped 0x41 (whole_fields (fields tray))).groups)) none ≡ some fs
        → cond (records_form 0 0 (fields (tray ++ each_of (λ s. encode 0x41 (function_payload s.range s.name)) ss)))
        (some (map function_of
        (grouped 0x41 (whole_fields (fields (tray ++ each_of (λ s. encode 0x41 (function_payload s.range s.name)) ss)))).groups)) none
        ≡ some (fs ++ map bare ss)
    go true f q =
        let spelled =
        spells_append (spells_itself tray (form-uncut 0 0 (fields tray) f)) (spells-tagged 0x41 payload_of ss (all_map ss (λ s k. k.short) h)) in
        let is = fields-spelled spelled in
        let form : records_form 0 0 (prepend (whole_fields (fields tray) ++ tagged 0x41 payload_of ss) end) ≡ true =
        rw (prepend_append (whole_fields (fields tray)) (tagged 0x41 payload_of ss) end) (tray-formed (fields tray) ss h 0 0 f) in
        rw (
          is,
          form,
          whole-only (whole_fields (fields tray) ++ tagged 0x41 payload_of ss),
          both-grouped (whole_fields (fields tray)) ss,
          map-append function_of (grouped 0x41 (whole_fields (fields tray))).groups (map bare_group ss),
          bares-back ss h,
          some-injective _ _ q,
        )
    go false f q = absurd (none-ne-some _ q)

-- its fields, and its form
module _ (tray : List ℕ) (ss : List Symbol) (h : All Fits ss) (f : records_form 0 0 (fields tray) ≡ true) where
  pub fields-joined : fields (tray ++ bare_bytes ss) ≡ prepend (whole_fields (fields tray)) (prepend (tagged 0x41 payload_of ss) end)
  unfolding bare_bytes
  fields-joined =
      fields-spelled (spells_append (spells_itself tray (form-uncut 0 0 (fields tray) f)) (spells-tagged 0x41 payload_of ss (all_map ss (λ s k. k.short) h)))
      ∙ prepend_append (whole_fields (fields tray)) (tagged 0x41 payload_of ss) end

  pub form-joined : records_form 0 0 (fields (tray ++ bare_bytes ss)) ≡ true
  form-joined = rw fields-joined (tray-formed (fields tray) ss h 0 0 f)
