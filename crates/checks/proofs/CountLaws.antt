-- How many fields of each tag an accepted input has: each at most the limit, and all together no more than its fields.
use mathlib.Core.Path.{◌≡◌}
use mathlib.Core.Bool.{true}
use mathlib.Core.List.{List, [], ◌∷◌}
use Prim.Native.Nat.{ℕ, ◌+◌, ◌≤◌}
use native.Mathlib.Omega.{arith}
use lib.Dec.{ltb}
use lib.ListN.{length, length-map}
use borrow.Author.Tests.{ltb-true}
use Rattle.tlv.specs.Limits.{field_limit}
use Rattle.tlv.specs.Outcome.{done}
use Rattle.tlv.specs.Fields.{Field, FieldList, end, cut, more, fields, whole_fields, count_of}
use Rattle.tlv.specs.declared.grammar.Context.{Context}
use Rattle.tlv.specs.Checked.{Accepts, Accepted}
use Rattle.tlv.specs.Grammar.{start, shaped, payload_limited, limited, next, check_from, check_input}
use Rattle.tlv.specs.Model.{unit_of}
use Rattle.tlv.proofs.TestLaws.{and_left}
use Rattle.tlv.proofs.OutcomeLaws.{done-is, refused-not}
use Rattle.tlv.proofs.AcceptedGroups.{passed-both}
use Rattle.tlv.proofs.AcceptedCounts.{next-count}
use Rattle.tlv.proofs.PlaceFacts.{accepted-count}
use Rattle.access.specs.Places.{unit_here, UnitOf}
use Rattle.files.proofs.FewLaws.{Rising, amounts_few, grouped-few, unit-few}
use Rattle.checks.specs.declared.layout.Counts.{Counts}
use Rattle.checks.specs.Layout.{Sized, total_of}

-- ---- an accepted input has few fields

field-limited : (c : Context) (f : Field) → limited c f ≡ true → c.count + 1 ≤ field_limit
unfolding limited
field-limited c f li = omega (arith, ltb-true c.count field_limit (and_left (ltb c.count field_limit) (payload_limited c f.tag f.payload) li))

few-from : (c : Context) (fs : FieldList) (n : ℕ) → check_from c fs ≡ done n → c.count ≤ field_limit → n ≤ field_limit
unfolding check_from
few-from c end n e h = let k = done-is e in omega arith
few-from c cut n e h = refused-not e
few-from c (more f fs) n e h =
    let both = passed-both (shaped c f) (limited c f) (check_from (next c f) fs) n e in
    few-from (next c f) fs n both.2 (omega (arith, next-count c f, field-limited c f both.1))

pub accepted-few : (s : List ℕ) (n : ℕ) → Accepts s n → n ≤ field_limit
unfolding check_input
accepted-few s n e = few-from (start e.program) (fields s) n e.passes (omega arith)

-- ---- all tags that have tables

abbrev tabled : List ℕ
tabled = 0x10 ∷ 0x12 ∷ 0x14 ∷ 0x15 ∷ 0x16 ∷ 0x17 ∷ 0x18 ∷ 0x19 ∷ 0x1c ∷ 0x1d ∷ 0x1f ∷ []

tabled_rise : Rising 0 tabled
tabled_rise = (omega arith, (omega arith, (omega arith, (omega arith, (omega arith, (omega arith, (omega arith, (omega arith, (omega arith, (omega arith, (omega arith, tt)))))))))))

pub total_few : {s : List ℕ} {c : Counts} (n : ℕ) → Sized s c → Accepts s n → total_of c ≤ n
total_few {s} {c} n S e = omega (arith, accepted-count s n e, amounts_few tabled (whole_fields (fields s)) tabled_rise)

pub total-small : {s : List ℕ} {c : Counts} → Accepted s → Sized s c → total_of c ≤ field_limit
total-small {s} {c} A S = omega (arith, accepted-few s A.number A.is, total_few A.number S A.is)

-- ---- the unit at a place

pub text-few : (s : List ℕ) (q : ℕ) → UnitOf s q → length (unit_here s q).text ≤ count_of 0x12 s
unfolding unit_of
text-few s q any = unit-few (λ u. length u.text) 0x12 (λ g. simp length-map (omega (arith, grouped-few 0x12 0x17 g.rest))) s q any
