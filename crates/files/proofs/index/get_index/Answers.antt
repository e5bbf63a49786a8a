-- `index::get_index` meets its contract.
use native.Mathlib.Omega.{arith}
use Rattle.std.specs.Prelude.{Some, None}
use Rattle.tlv.specs.Lists.{map_option}
use Rattle.files.proofs.index.IndexLaws.{get-out, get-read}
use Rattle.files.proofs.index.get_index.Goals as goal

pub returns : goal.returns
unfolding map_option
returns c = get-read _ _ c.args.number (Some c.in_ok-number.number) (omega arith) c.in_ok-number.ensures

pub returns-in_err-number : goal.returns-in_err-number
unfolding map_option
returns-in_err-number c = rw c.from_residual.ensures (get-read _ _ c.args.number None (omega arith) c.in_err-number.ensures)

pub returns-then-indices-number : goal.returns-then-indices-number
returns-then-indices-number c = search get-out
