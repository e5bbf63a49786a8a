-- What `?` hands on where `ok_or` had nothing.
use mathlib.Core.Path.{◌≡◌}
use Rattle.std.specs.Prelude.{Result, Err, Option, None}
use Rattle.std.specs.Option.{ok_or}
use Rattle.std.specs.Result.{IsErrAnd}
use Rattle.tlv.specs.declared.refusal.Refusal.{Refusal}
use Rattle.tlv.proofs.AnswerLaws.{handed, err-none}

pub none-refused : {A T : Type 0} (r : Option A) (x : Result T Refusal) {e e' : Refusal} → Err e' ≡ ok_or r e → IsErrAnd x (λ y. y ≡ e') → (x ≡ Err e) × (r ≡ None)
none-refused r x h q = let n = err-none r h in (rw (handed x _ q, n.1), n.0)
