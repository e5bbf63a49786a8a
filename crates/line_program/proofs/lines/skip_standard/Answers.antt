-- `lines::skip_standard` meets its contract. Two bytes, nothing, or the operands that the header counts.
use mathlib.Core.Path.{refl}
use mathlib.Core.Logic.{inl, inr}
use native.Mathlib.Omega.{arith}
use Rattle.line_program.proofs.InstructionLaws.{standard-bare, standard-range, standard-two, standard-rest}
use Rattle.line_program.proofs.lines.skip_standard.Goals as goal
use Rattle.line_program.proofs.lines.skip_standard.Goals.{in_default-via-then-opcode-lt6, in_default-via-else-opcode-lt6+else-opcode-lt12}
use Rattle.std.proofs.Common.{◌<◌, ◌≤◌, ◌⊎◌}

pub returns-in-9 : goal.returns-in-9
returns-in-9 c = standard-two _ _ _ _ c.in-9.is (omega arith) (omega arith) c.take_line_bytes.ensures

pub returns-in_default : goal.returns-in_default
returns-in_default c = let m = c.in_default-1.rest in
    let k : (c.args.opcode < 6) ⊎ (12 ≤ c.args.opcode) = elim c.in_default.branch [ in_default-via-then-opcode-lt6 w ↦ inl (omega arith) | in_default-via-else-opcode-lt6+else-opcode-lt12 w ↦ inr (omega arith) ] in
    standard-rest _ _ _ _ m.0.1 m.1 k
    c.operand_count.ensures c.skip_counted.ensures

pub returns-in-1 : goal.returns-in-1
returns-in-1 c = standard-bare _ _ _ _ 1 c.in-1.is refl refl (omega arith)

pub returns-in-1-2 : goal.returns-in-1-2
returns-in-1-2 c = standard-range _ _ _ _ c.in-1.in_default-own.rest.0.1 c.in-1.if-opcode-lt6-own.false c.in-1.if-opcode-lt12-own.true (omega arith)
