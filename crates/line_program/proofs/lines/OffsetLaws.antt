-- Where a program begins, and what of that a whole header tells.
use mathlib.Core.Path.{◌≡◌, refl, ◌∙◌}
use native.Mathlib.Omega.{arith}
use mathlib.Core.List.{List, []}
use Prim.Native.Nat.{ℕ, ◌+◌, ◌*◌, ◌/◌, ◌^◌, ◌<◌}
use borrow.Author.Tests.{lt-ltb, le-ltb}
use lib.ListN.{length}
use Rattle.buffers.proofs.TableLaws.{kept_refl}
use Rattle.std.specs.Prelude.{Option, Some, None, Result, Err, SomeIff}
use Rattle.tlv.specs.declared.refusal.Refusal.{Refusal}
use Rattle.line_program.specs.declared.lines.Header.{Header}
use Rattle.line_program.specs.Program.{initial_length, version_bytes, program_offset, scan_line_sequence_offsets, line_sequence_offsets}
use Rattle.line_program.specs.Scan.{OffsetIs, Scanned, header_with}

-- the code's sum is the definition's
pub offset-is : (h : Header) (i c : ℕ) → i ≡ initial_length h.word_size → c ≡ version_bytes h.version
    → h.offset + (i + 2 + (c + h.word_size)) + h.header_length ≡ program_offset (header_with h [])
unfolding program_offset
offset-is h i c ei ec = rw (← ei, ← ec) (omega arith)

-- a sum that is tested as it is made
pub offset-of : (r : Option ℕ) (m n : ℕ) → SomeIff r (m < 2 ^ 64) m → m ≡ n → OffsetIs r n
offset-of (Some a) m n S e = (S.1 ∙ e, omega (arith, S.0))
offset-of None m n S e = omega (arith, S)

-- the opcodes have no part in the place of a program
place_of : (h : Header) (ls : List ℕ) → program_offset (header_with h []) ≡ program_offset (header_with h ls)
unfolding program_offset
place_of h ls = refl

module _ (h : Header) (ls s w : List ℕ) (base : ℕ) where
  pub header-past : OffsetIs None (program_offset (header_with h []))
      → Scanned s w w base (Err Refusal.Overflow) (line_sequence_offsets (header_with h ls) s)
  unfolding line_sequence_offsets
  header-past O =
      let n = program_offset (header_with h ls) in
      let q : OffsetIs None n = rw (place_of h ls) at O in
      record { is = rw (le-ltb n (2 ^ 64) q); within = tt; rest = kept_refl w base (length s / 3 * 8) }

  pub header-at : {a : ℕ} {w' : List ℕ} {q : Result ℕ Refusal} → OffsetIs (Some a) (program_offset (header_with h []))
      → Scanned s w w' base q (scan_line_sequence_offsets (record { base = h.opcode_base; lengths = ls }) a s)
      → Scanned s w w' base q (line_sequence_offsets (header_with h ls) s)
  unfolding line_sequence_offsets
  header-at {a} {w'} {q} O S =
      let n = program_offset (header_with h ls) in
      let k : OffsetIs (Some a) n = rw (place_of h ls) at O in
      record { is = rw (lt-ltb n (2 ^ 64) k.1, ← k.0) S.is; within = S.within; rest = S.rest }
