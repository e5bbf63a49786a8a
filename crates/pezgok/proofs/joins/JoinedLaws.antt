-- The answer of a join of symbols as numbers.
use mathlib.Core.List.{List}
use Prim.Native.Nat.{ℕ}
use Rattle.std.specs.Prelude.{Result, Ok, Err}
use Rattle.tlv.specs.declared.refusal.Refusal.{Refusal}
use Rattle.symbols.specs.Answers.{JoinsWith}
use Rattle.pezgok.specs.Joined.{ExportsJoin}
use Rattle.pezgok.specs.Looked.{ToldNumber}

pub exports-join : {tray list result result' w w' : List ℕ} (x : Result ℕ Refusal) {size r : ℕ} → ToldNumber x size r → JoinsWith tray list result result' w w' x
    → ExportsJoin tray list result result' w w' size r
exports-join (Ok n) T J = record { is = rw (T.status, T.number) J.is; zeros = J.zeros }
exports-join (Err q) T J = record { is = rw (T.status, T.number) J.is; zeros = J.zeros }
