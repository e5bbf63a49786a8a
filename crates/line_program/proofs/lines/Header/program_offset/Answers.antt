-- `lines::Header::program_offset` meets its contract. The sum, or that one of its steps is past the last number.
use Rattle.std.proofs.Common.{arith}
use Rattle.line_program.proofs.lines.OffsetLaws.{offset-is, offset-of}
use Rattle.line_program.proofs.lines.Header.program_offset.Goals as goal

pub returns-in_err-checked_add : goal.returns-in_err-checked_add
returns-in_err-checked_add c =
    let e = offset-is c.args.self _ _ c.initial_length.ensures.0 c.version_bytes.ensures.0 in
    rw c.from_residual.ensures (omega (arith, c.in_err-checked_add.ensures))

pub returns : goal.returns
returns c =
    let e = offset-is c.args.self _ _ c.initial_length.ensures.0 c.version_bytes.ensures.0 in
    offset-of _ _ _ c.checked_add-2.ensures (omega (arith, c.in_ok-checked_add.ensures))
