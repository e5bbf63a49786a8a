-- `join::join_symbol` meets its contract.
use native.Mathlib.Omega.{arith}
use Rattle.buffers.proofs.BufferLaws.{put-nothing}
use Rattle.symbols.proofs.JoinWalkLaws.{laid-empty, laid-nameless, laid-held, laid-put}
use Rattle.symbols.proofs.join.join_symbol.Goals.{then-empty-via-then-empty}
use Rattle.symbols.proofs.join.join_symbol.Goals.{then-empty-via-else-empty+then-nameless}
use Rattle.symbols.proofs.join.join_symbol.Goals.{then-empty-via-else-empty+else-nameless+then-is_held_with}
use Rattle.symbols.proofs.join.join_symbol.Goals as goal

pub returns-then-empty : goal.returns-then-empty
returns-then-empty c = put-nothing (elim c.then-empty.branch [
  | then-empty-via-then-empty w ↦ laid-empty _ _ _ c.symbol_range-range.ensures w.if-empty.true
  | then-empty-via-else-empty+then-nameless w ↦ laid-nameless _ _ _ c.symbol_range-range.ensures w.if-nameless.true
  | then-empty-via-else-empty+else-nameless+then-is_held_with w ↦
      laid-held _ _ _ c.symbol_range-range.ensures _ w.is_held_with.ensures w.if-is_held_with.true
]) (omega arith) (omega arith)

pub returns : goal.returns
returns c = laid-put _ _ _ c.symbol_range-range.ensures _ c.put_function.ensures c.requires.has_head c.if-empty.false c.if-nameless.false c.is_held_with.ensures
    c.if-is_held_with.false
