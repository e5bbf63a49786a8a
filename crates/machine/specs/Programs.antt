-- Contract. What a line program that can run is made of, and what is refused.
use Rattle.std.specs.Prelude.{Result, Ok, Err, ◌≡◌, ℕ, List, true, false}
use Rattle.tlv.specs.declared.refusal.Refusal.{Refusal}
use Rattle.machine.specs.declared.registers.Encoding.{Encoding}
use Rattle.machine.specs.declared.program.LineProgram.{LineProgram}
use Rattle.machine.specs.Machine.{unsupported}
use Rattle.machine.specs.Steps.{line_encoding}

-- the program that was made has these bytes, opcode lengths and encoding, none of which is then unsupported; 21 of an unsupported encoding alone
abbrev pub ProgramMade : List ℕ → List ℕ → Encoding → Result LineProgram Refusal → Type 0
ProgramMade s lengths e (Ok p) = (p.program.now ≡ s) × (p.lengths.now ≡ lengths) × (p.encoding ≡ e) × (unsupported (line_encoding e) ≡ false)
ProgramMade s lengths e (Err f) = (f ≡ Refusal.LineEncoding) × (unsupported (line_encoding e) ≡ true)
