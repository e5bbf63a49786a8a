-- `grammar::check_input` meets its contract. The loop's invariant: the check of all is the check of what is left, in the context so far.
use mathlib.Core.Path.{◌≡◌, refl, sym, ◌∙◌}
use native.Mathlib.Omega.{arith}
use borrow.Author.Rules.{rules}
use Rattle.tlv.specs.Grammar.{check_input}
use Rattle.std.specs.Prelude.{Some}
use Rattle.tlv.specs.Cursor.{field_from}
use Rattle.tlv.proofs.AnswerLaws.{handed, err-none}
use Rattle.tlv.proofs.CheckLaws.{turn_end, turn-cut, turn-refused, turn-passed}
use Rattle.tlv.proofs.FieldLaws.{next-within}
use Rattle.tlv.proofs.grammar.check_input.Goals as goal

pub loop-p-init : goal.loop-p-init
unfolding check_input
loop-p-init c =
    let e = c.default.ensures in
    (omega arith, rw (e.0, e.1.0, e.1.1.0, e.1.1.1.0, e.1.1.1.1.0, e.1.1.1.1.1.0, e.1.1.1.1.1.1.0, e.1.1.1.1.1.1.1.0, e.1.1.1.1.1.1.1.1.1) refl)

pub returns-in_err-field : goal.returns-in_err-field
returns-in_err-field c =
    let none = err-none _ c.in_err-field.ensures.value in
    let here = sym none.0 ∙ c.next_field.ensures in
    rw (handed _ _ c.from_residual.ensures.1, none.1) (search (rules, turn-cut))

pub returns-in_err-c : goal.returns-in_err-c
returns-in_err-c c =
    let some : Some c.in_ok-field.field ≡ field_from c.args.s.now c.loop-p.p = sym c.in_ok-field.ensures.ok_part ∙ c.next_field.ensures in
    let judged = rw c.payload.ensures at c.in_err-c.ensures in
    rw (handed _ _ c.from_residual-in_err-c.ensures.1) (search (rules, turn-refused))

pub loop-p-preserved : goal.loop-p-preserved
loop-p-preserved c =
    let some : Some c.in_ok-field.field ≡ field_from c.args.s.now c.loop-p.p = sym c.in_ok-field.ensures.ok_part ∙ c.next_field.ensures in
    let judged = rw c.payload.ensures at c.in_ok-c.ensures in
    (next-within _ _ _ some, search turn-passed)

pub returns : goal.returns
returns c = search turn_end
