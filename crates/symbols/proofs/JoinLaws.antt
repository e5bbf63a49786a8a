-- The result of a join is a records tray again: the records that came from DWARF as they were, then the bare ones.
use mathlib.Core.Path.{◌≡◌, refl, sym, ◌∙◌}
use mathlib.Core.Bool.{Bool, true, false, cond, ◌&&◌, ◌||◌}
use mathlib.Core.Logic.{◌≢◌}
use mathlib.Core.List.{List, [], ◌∷◌, ◌++◌, map}
use mathlib.Core.Option.{none, some, none-ne-some, some-injective}
use Prim.Native.Nat.{ℕ, zero, suc, ◌+◌, ◌^◌, ◌≤◌, ◌<◌}
use native.Mathlib.Omega.{arith}
use lib.Dec.{leb, ltb, eqb}
use lib.ListN.{length, take, drop, length-drop}
use lib.Seq.{length-take-le}
use borrow.Author.Tests.{leb-true, ltb-true, eqb-false}
use Rattle.tlv.specs.declared.model.AddressRange.{AddressRange}
use Rattle.tlv.specs.Lists.{All, exists, is_empty}
use Rattle.tlv.specs.Bytes.{Bytes, le, le_at}
use Rattle.tlv.specs.Outcome.{refused, done}
use Rattle.tlv.specs.Fields.{FieldList, end, cut, more, fields_from, fields, whole_fields, payloads}
use Rattle.tlv.proofs.TestLaws.{and_left, and_right}
use Rattle.tlv.proofs.OutcomeLaws.{done-is, refused-not, with_done}
use Rattle.buffers.specs.Output.{Function}
use Rattle.buffers.specs.Reader.{records_form, function_of, read_records}
use Rattle.buffers.specs.Fits.{Short}
use Rattle.buffers.proofs.PayloadLaws.{function-length}
use Rattle.lookup.specs.Tray.{GroupAt, group, functions_at, function_range, functions_of}
use Rattle.lookup.specs.Lookup.{holds}
use Rattle.lookup.proofs.ReadLaws.{map-map, reads-functions}
use Rattle.symbols.specs.Symbols.{symbol_formed, symbols_form, symbol_of, passed_over, joining, bare_bytes, joined}
use Rattle.symbols.specs.Join.{JoinedReads, Joining}
use Rattle.symbols.proofs.BareLaws.{Fits, reads-joined}

-- ---- the symbols that are joined fit

pub shorts : (k : ℕ) (l : List ℕ) → Bytes l → All (λ f. Short f.payload) (whole_fields (fields_from k l))
unfolding fields_from whole_fields
shorts zero [] b = tt
shorts zero (t ∷ []) b = tt
shorts zero (t ∷ x ∷ []) b = tt
shorts zero (t ∷ x ∷ y ∷ l) b = go (leb (le (x ∷ y ∷ [])) (length l)) refl b.1.0 b.1.1.0 (shorts (le (x ∷ y ∷ [])) l b.1.1.1)
  where
    go : (c : Bool) → leb (le (x ∷ y ∷ [])) (length l) ≡ c → x < 256 → y < 256 → All (λ f. Short f.payload) (whole_fields (fields_from (le (x ∷ y ∷ [])) l))
        → All (λ f. Short f.payload)
        (whole_fields (cond c (more (record { tag = t; payload = take (le (x ∷ y ∷ [])) l }) (fields_from (le (x ∷ y ∷ [])) l)) cut))
    go true e hx hy ih =
        let n = length-take-le (le (x ∷ y ∷ [])) l (leb-true _ _ e) in
        (omega arith, ih)
    go false e hx hy ih = tt
shorts (suc k) [] b = tt
shorts (suc k) (x ∷ l) b = shorts k l b.1

-- what 26 leaves of a payload
pub record Whole (p : List ℕ) : Type 0 where
  pub long : 16 ≤ length p
  pub small : le_at 8 p 0 + le_at 8 p 8 < 2 ^ 64
  pub short : Short p

pub whole-payloads : (fs : FieldList) → symbols_form fs ≡ true → All (λ f. Short f.payload) (whole_fields fs) → All Whole (payloads 0x50 (whole_fields fs))
unfolding symbols_form symbol_formed whole_fields payloads
whole-payloads end e h = tt
whole-payloads cut e h = tt
whole-payloads (more f fs) e h =
    let this = and_left (symbol_formed f) (symbols_form fs) e in
    let rest = and_right (symbol_formed f) (symbols_form fs) e in
    let front = and_left (eqb f.tag 0x50 && leb 16 (length f.payload)) (ltb (le_at 8 f.payload 0 + le_at 8 f.payload 8) (2 ^ 64)) this in
    let tagged-so = and_left (eqb f.tag 0x50) (leb 16 (length f.payload)) front in
    rw tagged-so (
      record {
        long = leb-true _ _ (and_right (eqb f.tag 0x50) (leb 16 (length f.payload)) front);
        small =
            ltb-true _ _ (and_right (eqb f.tag 0x50 && leb 16 (length f.payload)) (ltb (le_at 8 f.payload 0 + le_at 8 f.payload 8) (2 ^ 64)) this);
        short = h.0;
      },
      whole-payloads fs rest h.1,
    )

pub symbol_fits : (p : List ℕ) → Whole p → passed_over (symbol_of p) ≡ false → Fits (symbol_of p)
unfolding passed_over symbol_of
symbol_fits p w e =
    let apart : eqb (le_at 8 p 0) (le_at 8 p 0 + le_at 8 p 8) ≡ false = first-false (eqb (le_at 8 p 0) (le_at 8 p 0 + le_at 8 p 8)) (is_empty (drop 16 p)) e in
    let differ = eqb-false (le_at 8 p 0) (le_at 8 p 0 + le_at 8 p 8) apart in
    let size : le_at 8 p 8 ≢ 0 = λ z. differ (omega arith) in
    let long = w.long in
    let s = w.short in
    record {
      range = record { filled = positive (le_at 8 p 8) size; small = w.small };
      short = rw (function-length (symbol_of p).range (drop 16 p), length-drop 16 p) (omega arith);
    }
  where
    first-false : (a b : Bool) → (a || b) ≡ false → a ≡ false
    first-false true b h = h
    first-false false b h = refl

    positive : (n : ℕ) → n ≢ 0 → le_at 8 p 0 < le_at 8 p 0 + n
    positive zero h = absurd (h refl)
    positive (suc n) h = omega arith

pub joining-fits : (rs : List AddressRange) (ps : List (List ℕ)) → All Whole ps → All Fits (joining rs (map symbol_of ps))
unfolding joining
joining-fits rs [] h = tt
joining-fits rs (p ∷ ps) h =
    go (passed_over (symbol_of p)) refl (exists (holds (symbol_of p).range.start) rs) (joining-fits rs ps h.1)
    (joining-fits (rs ++ ((symbol_of p).range ∷ [])) ps h.1)
  where
    go : (b : Bool) → passed_over (symbol_of p) ≡ b → (c : Bool) → All Fits (joining rs (map symbol_of ps))
        → All Fits (joining (rs ++ ((symbol_of p).range ∷ [])) (map symbol_of ps))
        → All Fits (cond (b || c) (joining rs (map symbol_of ps)) (symbol_of p ∷ joining (rs ++ ((symbol_of p).range ∷ [])) (map symbol_of ps)))
    go true e c x y = x
    go false e true x y = x
    go false e false x y = (symbol_fits p h.0 e, y)

-- ---- the whole

module _ (tray list result : List ℕ) (fs : List Function) (b : Bytes list) (r : read_records tray ≡ some fs) where
  pub ranges-are : (gs : List GroupAt) → functions_of tray ≡ done gs → map function_range gs ≡ map (λ f. f.range) fs
  unfolding functions_of function_of
  ranges-are gs = go (records_form 0 0 (fields tray)) (sym (reads-functions tray) ∙ r)
    where
      go : (c : Bool) → cond c (some (map (λ f. function_of (group f)) (functions_at tray))) none ≡ some fs
          → cond c (done (functions_at tray)) (refused 19) ≡ done gs
          → map function_range gs ≡ map (λ f. f.range) fs
      go true q e =
          rw (← done-is e, ← some-injective _ _ q) (sym (map-map (λ (f : Function). f.range) (λ g. function_of (group g)) (functions_at tray)))
      go false q e = absurd (none-ne-some _ q)

  by_form : (gs : List GroupAt) → functions_of tray ≡ done gs → (c : Bool) → symbols_form (fields list) ≡ c
      → cond c (done (tray ++ bare_bytes (joining (map function_range gs) (map symbol_of (payloads 0x50 (whole_fields (fields list))))))) (refused 26)
      ≡ done result → JoinedReads tray list result fs
  unfolding fields_from
  by_form gs g true s e =
      let fit = joining-fits (map (λ f. f.range) fs) (payloads 0x50 (whole_fields (fields list))) (whole-payloads (fields list) s (shorts 0 list b)) in
      let is = rw (ranges-are gs g) at (done-is e) in
      record {
        added = joining (map (λ f. f.range) fs) (map symbol_of (payloads 0x50 (whole_fields (fields list))));
        chosen = refl;
        reads = rw (← is) (reads-joined tray (joining (map (λ f. f.range) fs) (map symbol_of (payloads 0x50 (whole_fields (fields list))))) fs fit r);
      }
  by_form gs g false s e = refused-not e

pub joins : Joining
unfolding joined
joins tray list result fs t b r e = with_done (functions_of tray) _ e λ gs g q. by_form tray list result fs b r gs g (symbols_form (fields list)) refl q
