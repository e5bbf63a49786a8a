-- The result as it grows: a records tray whose ranges are those of the records joined so far.
use mathlib.Core.Path.{◌≡◌, refl, sym, ap, subst, ◌∙◌}
use mathlib.Core.Bool.{true, ◌&&◌}
use mathlib.Core.List.{List, [], ◌∷◌, ◌++◌, map, append-nil}
use Prim.Native.Nat.{ℕ, zero, suc, ◌+◌, ◌^◌, ◌≤◌, ◌<◌}
use native.Mathlib.Omega.{arith}
use lib.Dec.{leb, ltb, eqb}
use lib.ListN.{length, take, drop, set, length-append}
use lib.Seq.{drop-drop, drop-set-lt, take-add, length-take-le}
use borrow.Author.Tests.{leb-true, ltb-true}
use Rattle.std.specs.Prelude.{Option, Some, None}
use Rattle.tlv.specs.declared.fields.FieldSpan.{FieldSpan}
use Rattle.tlv.specs.declared.model.AddressRange.{AddressRange}
use Rattle.tlv.specs.Addresses.{Nonempty}
use Rattle.tlv.specs.Bytes.{Bytes, le_at}
use Rattle.tlv.specs.Fields.{FieldList, fields, whole_fields, payloads}
use Rattle.tlv.specs.Cursor.{field_from}
use Rattle.tlv.specs.Checked.{field_in}
use Rattle.tlv.proofs.TestLaws.{and_left, and_right}
use Rattle.tlv.proofs.ListLaws.{all_drop}
use Rattle.tlv.proofs.FieldLaws.{at-none, fields-field}
use Rattle.buffers.specs.Buffer.{overlay, Put}
use Rattle.buffers.specs.Output.{each_of}
use Rattle.buffers.specs.Fits.{Short}
use Rattle.buffers.proofs.BufferLaws.{take-overlay, part-overlay, put-length, put-fits}
use Rattle.symbols.specs.Symbols.{symbol_formed, symbols_form, Symbol, symbol_of, joining, bare_bytes}
use Rattle.symbols.specs.Walk.{ranges_in, symbols_from, laid_for, whole_from, Standing, AllJoined}
use Rattle.symbols.specs.declared.extents.RangeTables.{RangeTables}
use Rattle.symbols.specs.Extents.{Known, Remembered}
use Rattle.symbols.proofs.JoinLaws.{Whole, symbol_fits, shorts}
use Rattle.symbols.proofs.TurnLaws.{Turned, turned}

-- ---- the list: the symbol at a place, and those behind it

pub none-left : (s : List ℕ) (p : ℕ) → None ≡ field_from s p → symbols_from s p ≡ []
unfolding whole_fields payloads
none-left s p at = at-none s p at (λ (fs : FieldList). map symbol_of (payloads 0x50 (whole_fields fs)) ≡ []) refl refl

module _ (s : List ℕ) (p : ℕ) (f : FieldSpan) (at : Some f ≡ field_from s p) (form : symbols_form (fields (drop p s)) ≡ true) where
  abbrev payload : List ℕ
  payload = take f.len (drop f.start s)

  both : (symbol_formed (field_in s f.tag f.start f.len) && symbols_form (fields (drop f.next s))) ≡ true
  unfolding symbols_form
  both = rw (fields-field s p f at) at form

  formed-here : symbol_formed (field_in s f.tag f.start f.len) ≡ true
  formed-here = and_left (symbol_formed (field_in s f.tag f.start f.len)) (symbols_form (fields (drop f.next s))) both

  pub formed-next : symbols_form (fields (drop f.next s)) ≡ true
  formed-next = and_right (symbol_formed (field_in s f.tag f.start f.len)) (symbols_form (fields (drop f.next s))) both

  front : (eqb f.tag 0x50 && leb 16 (length payload)) ≡ true
  unfolding symbol_formed
  front = and_left (eqb f.tag 0x50 && leb 16 (length payload)) (ltb (le_at 8 payload 0 + le_at 8 payload 8) (2 ^ 64)) formed-here

  pub symbol-long : 16 ≤ length payload
  symbol-long = leb-true 16 (length payload) (and_right (eqb f.tag 0x50) (leb 16 (length payload)) front)

  pub symbol-small : le_at 8 payload 0 + le_at 8 payload 8 < 2 ^ 64
  unfolding symbol_formed
  symbol-small = ltb-true _ _ (and_right (eqb f.tag 0x50 && leb 16 (length payload)) (ltb (le_at 8 payload 0 + le_at 8 payload 8) (2 ^ 64)) formed-here)

  pub symbol-next : symbols_from s p ≡ symbol_of payload ∷ symbols_from s f.next
  unfolding whole_fields payloads
  symbol-next = rw (fields-field s p f at, and_left (eqb f.tag 0x50) (leb 16 (length payload)) front)

  module _ (bytes : Bytes s) where
    pub symbol-short : Short payload
    unfolding whole_fields
    symbol-short = (rw (fields-field s p f at) at (shorts 0 (drop p s) (all_drop (λ b. b < 256) p s bytes))).0

    symbol-whole : Whole payload
    symbol-whole = record { long = symbol-long; small = symbol-small; short = symbol-short }

-- ---- the whole: what stands in the result, and what is left of the list

pub record Joins (list result₀ result : List ℕ) (from p at : ℕ) : Type 0 where
  pub formed : symbols_form (fields (drop p list)) ≡ true
  pub bytes : Bytes list
  pub standing : Standing result at
  pub whole : whole_from (take from result₀) list 0 ≡ whole_from (take at result) list p
  pub behind : drop at result ≡ drop at result₀
  pub size : length result ≡ length result₀

drop-overlay : (k at : ℕ) (bs t : List ℕ) → at + length bs ≤ k → drop k (overlay at bs t) ≡ drop k t
drop-overlay k at [] t h = refl
drop-overlay k at (b ∷ bs) t h = drop-overlay k (at + 1) bs (set t at b) (omega arith) ∙ drop-set-lt k t at b (omega arith)

module _ {list result₀ result result' : List ℕ} {from p at q : ℕ} {f : FieldSpan}
    (j : Joins list result₀ result from p at) (s : Some f ≡ field_from list p)
    (laid : Put at (laid_for (ranges_in (take at result)) (symbol_of (take f.len (drop f.start list)))) result result' q) where
  abbrev symbol : Symbol
  symbol = symbol_of (take f.len (drop f.start list))

  abbrev bytes_laid : List ℕ
  bytes_laid = laid_for (ranges_in (take at result)) symbol

  step : Turned (take at result) symbol (symbols_from list f.next)
      (symbol_fits (take f.len (drop f.start list)) (symbol-whole list p f s j.formed j.bytes)) j.standing.formed
  step =
      turned (take at result) symbol (symbols_from list f.next)
      (symbol_fits (take f.len (drop f.start list)) (symbol-whole list p f s j.formed j.bytes)) j.standing.formed

  -- the whole result, told from behind the symbol
  whole-next : whole_from (take from result₀) list 0 ≡ whole_from (take at result ++ bytes_laid) list f.next
  unfolding whole_from
  whole-next = j.whole ∙ rw (symbol-next list p f s j.formed) step.same

  -- there is room: the symbol stands in the result
  pub joins-next : q ≤ length result' → Joins list result₀ result' from f.next q
  joins-next h =
      let fits = put-fits laid h in
      let small = laid.small in
      let place = laid.place in
      let there : q ≡ at + length bytes_laid = omega arith in
      let front : take at result' ≡ take at result = rw laid.buffer (take-overlay at at bytes_laid result (omega arith)) in
      let rest : take (length bytes_laid) (drop at result') ≡ bytes_laid = rw laid.buffer (part-overlay at bytes_laid result fits) in
      let now : take q result' ≡ take at result ++ bytes_laid = rw (there, take-add at (length bytes_laid) result', front, rest) in
      let kept : drop q result' ≡ drop q result = rw laid.buffer (drop-overlay q at bytes_laid result (omega arith)) in
      record {
        formed = formed-next list p f s j.formed;
        bytes = j.bytes;
        standing = record { within = h; formed = rw now step.formed };
        whole = whole-next ∙ ap (λ (l : List ℕ). whole_from l list f.next) (sym now);
        behind = kept ∙ further (length bytes_laid) q there;
        size = put-length laid ∙ j.size;
      }
    where
      further : (n k : ℕ) → k ≡ at + n → drop k result ≡ drop k result₀
      further n k h = rw (h, ← drop-drop n at result, ← drop-drop n at result₀, j.behind)

  -- what stands in the result then
  taken : q ≤ length result' → take q result' ≡ take at result ++ bytes_laid
  taken h =
      let fits = put-fits laid h in
      let small = laid.small in
      let place = laid.place in
      let there : q ≡ at + length bytes_laid = omega arith in
      let front : take at result' ≡ take at result = rw laid.buffer (take-overlay at at bytes_laid result (omega arith)) in
      let rest : take (length bytes_laid) (drop at result') ≡ bytes_laid = rw laid.buffer (part-overlay at bytes_laid result fits) in
      rw (there, take-add at (length bytes_laid) result', front, rest)

  -- something was laid just if the place moved
  laid-some : q ≤ length result' → at < q → bytes_laid ≡ [] → ⊥
  laid-some h l e = let place = laid.place in let z : length bytes_laid ≡ 0 = ap length e in omega arith

  laid_none : q ≤ length result' → q ≤ at → bytes_laid ≡ []
  laid_none h l =
      let fits = put-fits laid h in
      let small = laid.small in
      let place = laid.place in
      empty bytes_laid (omega arith)
    where
      empty : (l : List ℕ) → length l ≡ 0 → l ≡ []
      empty [] e = refl
      empty (x ∷ l) e = absurd (omega arith)

  pub next-filled : (x : AddressRange) → q ≤ length result' → at < q → x ≡ symbol.range → Nonempty x
  next-filled x h l e = subst (λ (y : AddressRange). Nonempty y) (sym e) (step.filled (laid-some h l))

  pub next_known : {w w' : List ℕ} {tables tables' : Option RangeTables} (x : AddressRange) → q ≤ length result' → at < q → x ≡ symbol.range
      → Known (ranges_in (take at result)) w tables → Remembered w w' tables x tables'
      → Known (ranges_in (take q result')) w' tables'
  next_known {w} {w'} {tables} {tables'} x h l e k m =
      let is : ranges_in (take q result') ≡ ranges_in (take at result) ++ (x ∷ []) =
      ap (λ (y : List ℕ). ranges_in y) (taken h) ∙ step.grown (laid-some h l) ∙ ap (λ (y : AddressRange). ranges_in (take at result) ++ (y ∷ [])) (sym e) in
      subst (λ (rs : List AddressRange). Known rs w' tables') (sym is) (m.grown (ranges_in (take at result)) k)

  pub same_known : {w : List ℕ} {tables : Option RangeTables} → q ≤ length result' → q ≤ at → Known (ranges_in (take at result)) w tables
      → Known (ranges_in (take q result')) w tables
  same_known {w} {tables} h l k =
      let is : ranges_in (take q result') ≡ ranges_in (take at result) = ap (λ (y : List ℕ). ranges_in y) (taken h) ∙ step.alike (laid_none h l) in
      subst (λ (rs : List AddressRange). Known rs w tables) (sym is) k

  -- there is none: the whole result is longer
  pub joins-short : length result' < q → AllJoined list result₀ result' from q
  unfolding whole_from
  joins-short h =
      let place = laid.place in
      let kept = put-length laid in
      let size = j.size in
      let within = j.standing.within in
      let front : length (take at result) ≡ at = length-take-le at result within in
      let long : length (whole_from (take from result₀) list 0)
      ≡ at + length bytes_laid + length (bare_bytes (joining (ranges_in (take at result ++ bytes_laid)) (symbols_from list f.next))) =
      ap length whole-next ∙ rw (length-append, length-append, front) in
      record { fits = λ l. absurd (omega arith); short = λ l. omega arith }

-- the end of the list
pub joins-done : {list result₀ result : List ℕ} {from p at : ℕ} → Joins list result₀ result from p at → symbols_from list p ≡ []
    → AllJoined list result₀ result from at
unfolding whole_from joining bare_bytes each_of
joins-done {list} {result₀} {result} {from} {p} {at} j e =
    let within = j.standing.within in
    let size = j.size in
    let is : whole_from (take from result₀) list 0 ≡ take at result = j.whole ∙ rw e (append-nil (take at result)) in
    let front : length (take at result) ≡ at = length-take-le at result within in
    record {
      fits = λ l. (
        sym (ap (λ (x : List ℕ). x ++ drop at result₀) is ∙ ap (λ (x : List ℕ). take at result ++ x) (sym j.behind) ∙ take_drop at result),
        sym (ap length is ∙ front),
      );
      short = λ l. absurd (omega arith);
    }
  where
    take_drop : (k : ℕ) (l : List ℕ) → take k l ++ drop k l ≡ l
    take_drop zero l = refl
    take_drop (suc k) [] = refl
    take_drop (suc k) (x ∷ l) = ap (λ (y : List ℕ). x ∷ y) (take_drop k l)

pub joins-end : {list result₀ result : List ℕ} {from p at : ℕ} → Joins list result₀ result from p at → None ≡ field_from list p → AllJoined list result₀ result from at
joins-end {list} {p = p} j s = joins-done j (none-left list p s)

-- what a symbol at a place is joined with
module _ {list result₀ result : List ℕ} {from p at : ℕ} {f : FieldSpan} (j : Joins list result₀ result from p at) (s : Some f ≡ field_from list p)
    (g : List ℕ) (is : g ≡ take f.len (drop f.start list)) where
  pub joins_long : 16 ≤ length g
  joins_long = rw is (symbol-long list p f s j.formed)

  pub joins-small : le_at 8 g 0 + le_at 8 g 8 < 2 ^ 64
  joins-small = rw is (symbol-small list p f s j.formed)

  pub joins-fits : length g < 65536
  joins-fits = rw is (symbol-short list p f s j.formed j.bytes)
