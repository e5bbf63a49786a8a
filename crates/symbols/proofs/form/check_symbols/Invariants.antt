-- `form::check_symbols` meets its contract.
use mathlib.Core.Path.{◌≡◌}
use Prim.Native.Nat.{◌-◌}
use lib.ListN.{length, drop}
use Rattle.tlv.specs.Bytes.{Bytes}
use Rattle.tlv.specs.Fields.{fields}
use Rattle.symbols.specs.Symbols.{symbols_form}
use Rattle.symbols.proofs.form.check_symbols.Given as goal

abbrev pub invariant-loop-p : goal.invariant-loop-p
invariant-loop-p l = (symbols_form (fields l.s) ≡ symbols_form (fields (drop l.p l.s))) × Bytes l.s

abbrev pub decreases-loop-p : goal.decreases-loop-p
decreases-loop-p l = length l.s - l.p
