-- The ranges of a tray's functions, gathered as they come.
use mathlib.Core.Path.{◌≡◌, refl, sym, ap, subst, ◌∙◌}
use mathlib.Core.List.{List, [], ◌∷◌, ◌++◌, map, append-nil, append_assoc}
use Prim.Native.Nat.{ℕ, ◌+◌, ◌-◌, ◌*◌, ◌≤◌, ◌<◌}
use native.Mathlib.Omega.{arith}
use lib.Dec.{leb}
use lib.ListN.{length, take, drop}
use borrow.Author.Tests.{ltb-true}
use Rattle.std.specs.Prelude.{Some, None}
use Rattle.tlv.specs.declared.fields.FieldSpan.{FieldSpan}
use Rattle.tlv.specs.declared.model.AddressRange.{AddressRange}
use Rattle.tlv.specs.Addresses.{Nonempty}
use Rattle.tlv.specs.Lists.{All}
use Rattle.tlv.specs.Bytes.{le_at}
use Rattle.tlv.specs.Cursor.{field_from}
use Rattle.tlv.specs.Model.{range_of}
use Rattle.tlv.proofs.TestLaws.{and_right}
use Rattle.tlv.proofs.ListLaws.{all_append}
use Rattle.buffers.specs.Reader.{range_formed, records_formed}
use Rattle.buffers.specs.Table.{PutRange}
use Rattle.ranges.specs.RangeTable.{ranges_at}
use Rattle.ranges.proofs.RangeTableLaws.{ranges-nil, ranges-push}
use Rattle.lookup.specs.Tray.{GroupAt, functions_at, function_range}
use Rattle.lookup.specs.Walk.{Stands}
use Rattle.lookup.proofs.StepLaws.{functions_from, functions-none, functions-this, functions-next, formed-here, stands-next}
use Rattle.symbols.specs.Walk.{ranges_in}
use Rattle.symbols.specs.Extents.{Gathered}

-- a function's range is not empty
pub function-filled : {s : List ℕ} {p : ℕ} {f : FieldSpan} (g : List ℕ) (x : AddressRange) → Stands s p → Some f ≡ field_from s p → f.tag ≡ 0x41
    → g ≡ take f.len (drop f.start s) → x ≡ range_of g → Nonempty x
unfolding records_formed range_formed range_of
function-filled {s} {p} {f} g x st at q payload is =
    let k = rw (q, ← payload) at (formed-here s p f at st) in
    let l : le_at 8 g 0 < le_at 8 g 8 = ltb-true (le_at 8 g 0) (le_at 8 g 8) (and_right (leb 16 (length g)) (range_formed g) k) in
    subst (λ (y : AddressRange). Nonempty y) (sym is) l

pub record Gathering (s w₀ w : List ℕ) (p n : ℕ) : Type 0 where
  pub stands : Stands s p
  pub within : n * 16 ≤ length w
  pub ranges : ranges_at w 0 n ++ map function_range (functions_from s p) ≡ ranges_in s
  pub filled : All Nonempty (ranges_at w 0 n)
  pub size : length w ≡ length w₀

pub gathering-start : (s w : List ℕ) → Stands s 0 → Gathering s w w 0 0
unfolding functions_at
gathering-start s w st = record { stands = st; within = omega arith; ranges = rw (ranges-nil w 0); filled = rw (ranges-nil w 0) tt; size = refl }

module _ {s w₀ w : List ℕ} {p n : ℕ} (g : Gathering s w₀ w p n) where
  pub gathered-all : None ≡ field_from s p → Gathered s w n
  gathered-all at = record {
    within = g.within;
    ranges = sym (append-nil (ranges_at w 0 n))
        ∙ subst (λ (fs : List GroupAt). ranges_at w 0 n ++ map function_range fs ≡ ranges_in s) (functions-none s p at) g.ranges;
    filled = g.filled;
  }

  module _ {f : FieldSpan} (at : Some f ≡ field_from s p) where
    st : Stands s f.next
    st = stands-next s p f at g.stands

    pub gathering-other : (f.tag ≡ 0x41 → ⊥) → Gathering s w₀ w f.next n
    gathering-other q = record {
      stands = st;
      within = g.within;
      ranges = subst (λ (fs : List GroupAt). ranges_at w 0 n ++ map function_range fs ≡ ranges_in s) (functions-next s p f at q) g.ranges;
      filled = g.filled;
      size = g.size;
    }

    pub gathering-this : {w' : List ℕ} (payload : List ℕ) (x : AddressRange) → f.tag ≡ 0x41 → payload ≡ take f.len (drop f.start s) → x ≡ range_of payload
        → 16 ≤ length w - n * 16 → PutRange w w' (n * 16) x → length w' ≡ length w → Gathering s w₀ w' f.next (n + 1)
    gathering-this {w'} payload x q read is room put same =
        let full = function-filled payload x g.stands at q read is in
        let pushed : ranges_at w' 0 (n + 1) ≡ ranges_at w 0 n ++ (x ∷ []) = ranges-push 0 n (subst (λ (i : ℕ). PutRange w w' i x) (omega arith) put) in
        record {
          stands = st;
          within = omega arith;
          ranges =
              ap (λ (l : List AddressRange). l ++ map function_range (functions_from s f.next)) pushed
              ∙ append_assoc (ranges_at w 0 n) (x ∷ []) (map function_range (functions_from s f.next))
              ∙ ap (λ (y : AddressRange). ranges_at w 0 n ++ (y ∷ map function_range (functions_from s f.next))) (is ∙ ap range_of read)
              ∙ subst (λ (fs : List GroupAt). ranges_at w 0 n ++ map function_range fs ≡ ranges_in s) (functions-this s p f at q) g.ranges;
          filled = rw pushed (all_append Nonempty (ranges_at w 0 n) (x ∷ []) g.filled (full, tt));
          size = same ∙ g.size;
        }
