-- `fields::next_field` meets its contract: each return is a case of `step_at`.
use mathlib.Core.Path.{refl}
use native.Mathlib.Omega.{arith}
use Rattle.tlv.specs.Cursor.{span_of}
use Rattle.tlv.proofs.CursorLaws.{step_end, step-short, step_cut, step_field}
use Rattle.tlv.proofs.fields.next_field.Goals as goal

pub returns-then-s-p : goal.returns-then-s-p
unfolding span_of
returns-then-s-p c = rw (step_end c.args.s.now c.args.p (omega arith)) refl

pub returns-then-s-p-lt-FIELD_HEAD : goal.returns-then-s-p-lt-FIELD_HEAD
unfolding span_of
returns-then-s-p-lt-FIELD_HEAD c = rw (step-short c.args.s.now c.args.p (omega arith) (omega arith)) refl

pub returns-then-s-start : goal.returns-then-s-start
unfolding span_of
returns-then-s-start c = rw (step_cut c.args.s.now c.args.p (omega arith) (omega arith) (omega arith)) refl

pub returns : goal.returns
unfolding span_of
returns c = rw (step_field c.args.s.now c.args.p (omega arith) (omega arith) (omega arith), c.read-len.ensures) refl
