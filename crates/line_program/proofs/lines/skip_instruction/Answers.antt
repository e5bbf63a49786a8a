-- `lines::skip_instruction` meets its contract. An extended, a standard or a special instruction.
use Rattle.std.proofs.Common.{arith}
use Rattle.std.proofs.lemmas.Result.{err_from_is_err_and}
use Rattle.line_program.proofs.InstructionLaws.{skip-extended, skip-standard, skip-special}
use Rattle.line_program.proofs.SkipLaws.{over-skip, over-err}
use Rattle.line_program.proofs.lines.skip_instruction.Goals as goal

pub returns-in_err-past : goal.returns-in_err-past
returns-in_err-past c =
    let p = err_from_is_err_and c.from_residual.result c.from_residual.ensures.1 in
    rw (p.1, p.2) (skip-standard _ _ _ _ _ _ _ c.if-opcode-eq0.false c.if-opcode-opcode_base.true (over-err c.in_err-past.ensures))

pub returns-then-opcode-opcode_base : goal.returns-then-opcode-opcode_base
returns-then-opcode-opcode_base c = skip-standard _ _ _ _ _ _ _ c.if-opcode-eq0.false c.if-opcode-opcode_base.true (over-skip c.in_ok-past.ensures)

pub returns : goal.returns
returns c = skip-special _ _ _ _ _ _ c.if-opcode-eq0.false (omega arith) (omega arith)

pub returns-then-opcode-eq0 : goal.returns-then-opcode-eq0
returns-then-opcode-eq0 c = search skip-extended
