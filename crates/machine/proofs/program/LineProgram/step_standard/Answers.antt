-- `LineProgram::step_standard` meets its contract: by the opcode's number.
use Rattle.std.proofs.Common.{◌<◌, arith}
use Rattle.machine.proofs.program.StandardLaws.{above, standard-copy, standard-advance, standard-line, standard-file, standard-column, standard-const}
use Rattle.machine.proofs.program.StandardLaws.{standard-half, standard-isa, standard-none, standard-unknown}
use Rattle.machine.proofs.program.LineProgram.step_standard.Goals as goal
use Rattle.machine.proofs.program.LineProgram.step_standard.Goals.{in_default-via-then-opcode-lt1, in_default-via-else-opcode-lt1+else-opcode-lt12}

pub returns-in-1 : goal.returns-in-1
returns-in-1 c = standard-copy _ _ _ _ _ _ c.in-1.is c.requires.1

pub returns-in-6 : goal.returns-in-6
returns-in-6 c = let low = above 5 c.args.opcode (above 4 c.args.opcode (above 3 c.args.opcode (above 2 c.args.opcode (above 1 c.args.opcode c.in-6.if-opcode-lt1-own.false c.in-6.in_default-own.rest.0.0.0.0.0.0.0.1) c.in-6.in_default-own.rest.0.0.0.0.0.0.1)
    c.in-6.in_default-own.rest.0.0.0.0.0.1) c.in-6.in_default-own.rest.0.0.0.0.1) c.in-6.in_default-own.rest.0.0.0.1 in
    standard-none _ _ _ _ _ _ _ c.in-6.in_default-own.rest.0.0.1 c.in-6.in_default-own.rest.0.1 low c.in-6.if-opcode-lt12-own.true c.step_over-in-6.ensures

pub returns-in_default : goal.returns-in_default
returns-in_default c = let rest = c.in_default-1.rest.1 in
    let high : 12 < c.args.opcode = elim c.in_default.branch [ in_default-via-then-opcode-lt1 w ↦ absurd (omega (arith, c.requires.0)) | in_default-via-else-opcode-lt1+else-opcode-lt12 w ↦ above 12 _ (omega arith) rest ] in
    standard-unknown _ _ _ _ _ _ _ _ c.operand_count.ensures high c.step_over-in_default.ensures

pub returns-in-12 : goal.returns-in-12
returns-in-12 c = search standard-isa

pub returns-in-2 : goal.returns-in-2
returns-in-2 c = search standard-advance

pub returns-in-3 : goal.returns-in-3
returns-in-3 c = search standard-line

pub returns-in-4 : goal.returns-in-4
returns-in-4 c = search standard-file

pub returns-in-5 : goal.returns-in-5
returns-in-5 c = search standard-column

pub returns-in-8 : goal.returns-in-8
returns-in-8 c = search standard-const

pub returns-in-9 : goal.returns-in-9
returns-in-9 c = search standard-half
