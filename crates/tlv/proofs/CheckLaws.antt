-- The checker field by field: the limits, the context after a field, what becomes of a field, and a turn of the loop over a sheet.
use mathlib.Core.Path.{◌≡◌, refl, sym, ◌∙◌}
use mathlib.Core.Bool.{Bool, true, false, cond}
use mathlib.Core.List.{List}
use Prim.Native.Nat.{ℕ, ◌+◌, ◌^◌, ◌≤◌, ◌<◌}
use native.Mathlib.Omega.{arith}
use lib.ListN.{length, take, drop}
use borrow.Author.Tests.{ltb-true}
use Rattle.std.specs.Prelude.{Some, None, Result, Ok, Err}
use Rattle.tlv.specs.declared.fields.FieldSpan.{FieldSpan}
use Rattle.tlv.specs.declared.grammar.Context.{Context}
use Rattle.tlv.specs.declared.refusal.Refusal.{Refusal}
use Rattle.tlv.specs.Refusals.{number_of}
use Rattle.tlv.specs.Outcome.{Outcome, refused, done}
use Rattle.tlv.specs.Bytes.{le_at}
use Rattle.tlv.specs.Fields.{Field, FieldList, more, fields}
use Rattle.tlv.specs.Cursor.{field_from}
use Rattle.tlv.specs.Grammar.{may_follow, unit_shaped, payload_shaped, shaped, limited, next, check_from}
use Rattle.tlv.specs.Checked.{field_in, judged_of}
use Rattle.tlv.proofs.TestLaws.{and_left, and_right}
use Rattle.tlv.proofs.CursorLaws.{step_end, fields-at}
use Rattle.tlv.proofs.FieldLaws.{cut-here, fields-field}
use Rattle.tlv.proofs.ShapeLaws.{part_length, number_at, number-first}
use Rattle.tlv.proofs.PayloadFacts.{unit-long}

-- ---- a unit that has passed

-- it ends below 2 ^ 64
module _ (s : List ℕ) (start len : ℕ) (fits : start + len ≤ length s) (c : Context) (t : ℕ) (sh : shaped c (field_in s t start len) ≡ true) where
  pub unit-fits : (o n : ℕ) → t ≡ 0x10 → o ≡ le_at 8 s start → n ≡ le_at 8 s (start + 8) → o + n < 2 ^ 64
  unfolding shaped payload_shaped unit_shaped
  unit-fits o n e eo en =
      let shape = rw e at (and_right (may_follow c.previous t) (payload_shaped c t (take len (drop start s))) sh) in
      let l : len ≡ 18 = sym (part_length s start len fits) ∙ unit-long c (take len (drop start s)) shape in
      let all = rw (number-first s start len 8 o (omega arith) eo, number_at s start len 8 8 n (omega arith) en) at shape in
      ltb-true (o + n) (2 ^ 64) (search (and_left, and_right))

-- ---- a turn of the loop over a sheet: v is the outcome of all, and p is the place of the turn

-- the outcome where the first field is judged
abbrev outcome_from : Result Context Refusal → FieldList → Outcome ℕ
outcome_from (Ok d) fs = check_from d fs
outcome_from (Err e) fs = refused (number_of e)

check-judged : (c : Context) (f : Field) (fs : FieldList) → check_from c (more f fs) ≡ outcome_from (judged_of c f) fs
unfolding check_from judged_of
check-judged c f fs = go (shaped c f) (limited c f)
  where
    go : (a b : Bool) → cond a (cond b (check_from (next c f) fs) (refused 3)) (refused 2)
        ≡ outcome_from (cond a (cond b (Ok (next c f)) (Err Refusal.PastLimit)) (Err Refusal.Misshapen)) fs
    go true true = refl
    go true false = refl
    go false b = refl

module _ (s : List ℕ) (p : ℕ) (c : Context) (v : Outcome ℕ) (inv : v ≡ check_from c (fields (drop p s))) where
  pub turn_end : length s ≤ p → done c.count ≡ v
  unfolding check_from
  turn_end h = sym (inv ∙ rw (fields-at s p, step_end s p h))

  -- bytes that are left and are no whole field
  pub turn-cut : p < length s → None ≡ field_from s p → refused 2 ≡ v
  unfolding check_from
  turn-cut h at = sym (inv ∙ rw (fields-at s p, cut-here s p at h))

  module _ (f : FieldSpan) (j : Result Context Refusal) (at : Some f ≡ field_from s p) (is : j ≡ judged_of c (field_in s f.tag f.start f.len)) where
    turn-field : v ≡ outcome_from j (fields (drop f.next s))
    turn-field = inv ∙ rw (fields-field s p f at, check-judged c (field_in s f.tag f.start f.len) (fields (drop f.next s)), ← is)

    pub turn-refused : (e : Refusal) → j ≡ Err e → refused (number_of e) ≡ v
    turn-refused e h = sym (rw h at turn-field)

    pub turn-passed : (d : Context) → j ≡ Ok d → v ≡ check_from d (fields (drop f.next s))
    turn-passed d h = rw h at turn-field
