-- `LineProgram::add_special_line` meets its contract: a negative line base is added modulo 2^64.
use Rattle.std.proofs.Common.{◌≡◌, ◌+◌, ◌%◌, ◌∙◌, arith}
use Rattle.machine.proofs.RegisterLaws.{special-up, special-down}
use Rattle.machine.proofs.program.LineProgram.add_special_line.Goals as goal

pub returns-then-e-ge-NEGATIVE : goal.returns-then-e-ge-NEGATIVE
returns-then-e-ge-NEGATIVE c = let up = c.from.result + c.from-2.result in
    let is : up ≡ c.args.self.encoding.line_base + c.args.adjusted % c.args.self.encoding.line_range = omega arith in
    c.add_line-then-e-ge-NEGATIVE.ensures ∙ rw c.add_line.ensures (special-down c.args.self.encoding c.args.r c.args.adjusted up is (omega arith))

pub returns : goal.returns
returns c = let up = c.from.result + c.from-2.result in
    let is : up ≡ c.args.self.encoding.line_base + c.args.adjusted % c.args.self.encoding.line_range = omega arith in
    c.add_line-2.ensures ∙ special-up c.args.self.encoding c.args.r c.args.adjusted up is (omega arith)
