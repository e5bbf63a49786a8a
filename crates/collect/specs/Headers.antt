-- Contract. What is read of the payload of a line header.
use Rattle.std.specs.Prelude.{ℕ, ◌≡◌, List}
use Rattle.tlv.specs.Bytes.{le_at}
use Rattle.line_program.specs.declared.lines.Header.{Header}

-- the numbers of the header whose payload is s
pub record HeaderRead (s : List ℕ) (r : Header) : Type 0 where
  pub offset : r.offset ≡ le_at 8 s 0
  pub header-length : r.header_length ≡ le_at 8 s 8
  pub version : r.version ≡ le_at 1 s 16
  pub word_size : r.word_size ≡ le_at 1 s 17
  pub opcode_base-is : r.opcode_base ≡ le_at 1 s 18
