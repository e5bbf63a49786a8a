-- Where the rows of a unit come from: the source that is found is the one of its rows.
use mathlib.Core.Path.{◌≡◌, refl, sym, ap, ◌∙◌}
use mathlib.Core.List.{List}
use Prim.Native.Nat.{ℕ, ◌+◌, ◌≤◌}
use native.Mathlib.Omega.{arith}
use lib.Dec.{eqb}
use lib.ListN.{length, take, drop}
use denote.Bor.{Bor}
use Rattle.std.specs.Prelude.{Some, None}
use Rattle.tlv.specs.declared.fields.FieldSpan.{FieldSpan}
use Rattle.tlv.specs.Grammar.{encoding_flag_at, encoding_field_size}
use Rattle.tlv.specs.Tags.{encoding_tag}
use Rattle.tlv.specs.Lists.{map_option}
use Rattle.tlv.specs.Bytes.{le_at}
use Rattle.tlv.specs.Model.{header_of, encoding_of}
use Rattle.tlv.specs.Cursor.{step_at}
use Rattle.tlv.specs.Checked.{Placed}
use Rattle.tlv.proofs.ShapeLaws.{number_at, number-first}
use Rattle.tlv.proofs.PlacePromises.{placed-encoding}
use Rattle.access.specs.Access.{NextOwn}
use Rattle.access.proofs.OwnLaws.{own-within, own-field}
use Rattle.line_program.specs.Program.{opcodes_of}
use Rattle.files.proofs.UnitLaws.{first-none, first_found}
use Rattle.machine.specs.declared.registers.Encoding.{Encoding}
use Rattle.machine.specs.Machine.{program_rows}
use Rattle.machine.specs.Steps.{line_encoding, opcodes_with}
use Rattle.machine.specs.LineRows.{line_rows, rows_most}
use Rattle.collect.specs.Sources.{program_in, EncodingRead, SourceFound}

-- ---- the source that is found

module _ {main : List ℕ} {p : ℕ} where
  -- no encoding
  pub source-fields : (payload program : List ℕ) → NextOwn main p encoding_tag None → SourceFound main p payload program None
  unfolding line_rows rows_most map_option
  source-fields payload program own = record {
    is = λ u other enc rows. rw (enc, first-none main p encoding_tag own, rows);
    most = λ u other enc rows. rw (enc, first-none main p encoding_tag own, rows);
    lent = tt;
  }

  module _ (h : Placed main p) {field : FieldSpan} (own : NextOwn main p encoding_tag (Some field)) where
    sized : field.len ≡ encoding_field_size
    sized =
        let x = own-field main p encoding_tag field own h in
        placed-encoding main x.place (step_at main x.place) encoding_tag field.start field.len field.next x.here refl x.is refl

    -- it can be read
    pub encoding-within : field.start + encoding_field_size ≤ length main
    encoding-within = let l = sized in let w = own-within main p encoding_tag field own in omega arith

    module _ (b : ℕ) (q : Encoding) (R : EncodingRead main field.start b q) where
      encoding-is : line_encoding q ≡ encoding_of (take field.len (drop field.start main))
      unfolding encoding_of
      encoding-is =
          let l = sized in
          let n : q.minimum_instruction_length ≡ le_at 1 (take field.len (drop field.start main)) 0
          = sym (number-first main field.start field.len 1 q.minimum_instruction_length (omega arith) R.minimum) in
          let o : q.maximum_operations ≡ le_at 1 (take field.len (drop field.start main)) 1
          = sym (number_at main field.start field.len 1 1 q.maximum_operations (omega arith) R.operations) in
          let f : le_at 1 (take field.len (drop field.start main)) encoding_flag_at ≡ le_at 1 main (field.start + encoding_flag_at)
          = number_at main field.start field.len 1 encoding_flag_at (le_at 1 main (field.start + encoding_flag_at)) (omega arith) refl in
          let s : q.default_is_stmt ≡ eqb (le_at 1 (take field.len (drop field.start main)) encoding_flag_at) 1 = R.statement ∙ ap (λ (x : ℕ). eqb x 1) (sym f) in
          let g : q.line_base ≡ le_at 1 (take field.len (drop field.start main)) 3 = sym (number_at main field.start field.len 1 3 q.line_base (omega arith) R.line-base) in
          let k : q.line_range ≡ le_at 1 (take field.len (drop field.start main)) 4 = sym (number_at main field.start field.len 1 4 q.line_range (omega arith) R.line-range) in
          λ i. record { minimum_instruction_length = n i; maximum_operations = o i; default_is_stmt = s i; line_base = g i; line_range = k i }

      module _ (payload : List ℕ) (base : b ≡ le_at 1 payload 18) where
        opcodes-are : opcodes_with q (drop 19 payload) ≡ opcodes_of (header_of payload)
        unfolding header_of
        opcodes-are = let o : q.opcode_base ≡ le_at 1 payload 18 = R.opcode_base-is ∙ base in λ i. record { base = o i; lengths = drop 19 payload }

        -- an encoding: the program's rows
        pub source-program : (lengths program : Bor (List ℕ)) → lengths.now ≡ drop 19 payload
            → SourceFound main p payload program.now (Some (record { program = program; lengths = lengths; encoding = q }))
        unfolding line_rows rows_most map_option program_in
        source-program lengths program cut = record {
          is = λ u other enc rows. rw (enc, first_found main p encoding_tag field own, cut)
              (λ i. program_rows (encoding-is i) (opcodes-are i) other);
          most = λ u other enc rows. rw (enc, first_found main p encoding_tag field own);
          lent = refl;
        }
