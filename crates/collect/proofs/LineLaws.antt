-- How warnings are put, and a row whose file has a number: its line, or the warning that its line is past 32 bits.
use mathlib.Core.Path.{◌≡◌, refl, sym}
use mathlib.Core.List.{List, [], ◌∷◌, ◌++◌, append-nil, append_assoc}
use Prim.Native.Nat.{ℕ, ◌+◌, ◌*◌, ◌≤◌, ◌<◌, ◌^◌}
use native.Mathlib.Omega.{arith}
use lib.ListN.{length}
use borrow.Author.Tests.{lt-ltb, le-ltb}
use Rattle.std.specs.Prelude.{Option as Maybe}
use Rattle.tlv.specs.declared.model.FileIndex.{FileIndex}
use Rattle.tlv.specs.Grammar.{row_field_size, row_line_at, row_column_at}
use Rattle.tlv.specs.Lists.{at}
use Rattle.tlv.specs.Bytes.{bytes_of, le_at}
use Rattle.tlv.specs.Fields.{encode}
use Rattle.tlv.specs.Model.{row_of}
use Rattle.buffers.specs.Buffer.{top, Put}
use Rattle.buffers.specs.Table.{chunk}
use Rattle.buffers.specs.Output.{WarningKind, unrepresentable_line, Warning, about, kind_number, warning_payload, each_of, warnings_bytes}
use Rattle.buffers.proofs.BufferLaws.{put-none, put_as}
use Rattle.buffers.proofs.ChunkLaws.{le_at-chunk, le_at-front}
use Rattle.buffers.proofs.OutputLaws.{put-about}
use Rattle.buffers.proofs.TableLaws.{kept_refl}
use Rattle.lines.specs.Lines.{raw_line, convert_line}
use Rattle.rows.specs.Sizes.{line_size}
use Rattle.rows.specs.Stored.{sequence_of, PutLine}
use Rattle.rows.proofs.StoredLaws.{lines-push}
use Rattle.collect.specs.declared.convert.Conversion.{Conversion}
use Rattle.collect.specs.declared.convert.Converting.{Converting}
use Rattle.collect.specs.declared.convert.Row.{Row}
use Rattle.collect.specs.Converts.{offsets_of, raw_of, LineAppended, LineConverted}

-- ---- warnings

pub none-put : {at : ℕ} {t : List ℕ} → at ≤ top → length t < top → Put at (warnings_bytes []) t t at
unfolding warnings_bytes each_of
none-put h k = put-none h k

pub about-put : (k : WarningKind) (kind first second : ℕ) → kind ≡ kind_number k → {at r : ℕ} {t t' : List ℕ} → Put at (encode 0x46 ((kind ∷ []) ++ bytes_of 8 first ++ bytes_of 8 second)) t t' r
    → Put at (warnings_bytes (about k first second ∷ [])) t t' r
unfolding warnings_bytes each_of
about-put k kind first second e P = put_as (append-nil (encode 0x46 (warning_payload (about k first second)))) (put-about k kind first second e P)

pub warnings-append : (a b : List Warning) → warnings_bytes (a ++ b) ≡ warnings_bytes a ++ warnings_bytes b
unfolding warnings_bytes each_of
warnings-append [] b = refl
warnings-append (x ∷ a) b = rw (warnings-append a b) (sym (append_assoc (encode 0x46 (warning_payload x)) (warnings_bytes a) (warnings_bytes b)))

-- ---- the line

module _ {w : List ℕ} {c : Conversion} {r : Row} {file : FileIndex} where
  pub line-appended : {w' : List ℕ} {count : ℕ} {o : Maybe ℕ} {line : ℕ} → (r.line < 2 ^ 32) × (line ≡ r.line) → sequence_of o ≡ at (offsets_of w c) r.sequence
      → PutLine w w' (c.lines + count * line_size) (record { address = r.address; file = file; line = line; column = r.column }) o → LineAppended w w' c r file count
  unfolding convert_line
  line-appended {count = count} h e P = record {
    is = λ table indices. rw (lt-ltb r.line (2 ^ 32) h.0, lines-push c.lines count P, e, h.1);
    rest = P.rest;
  }

  pub line-put : {w' warnings : List ℕ} {st : Converting} → LineAppended w w' c r file st.count → st.warned ≤ top → length warnings < top
      → LineConverted w w' warnings warnings c st r file (record { table = st.table; count = st.count + 1; warned = st.warned })
  line-put A fits small = record {
    new = [];
    is = A.is;
    put = none-put fits small;
    table_same = refl;
    more = (omega arith, omega arith);
    rest = A.rest;
  }

  pub line-warned : {w' warnings warnings' : List ℕ} {st : Converting} {n : ℕ} → (w' ≡ w) × (2 ^ 32 ≤ r.line) → Put st.warned (encode 0x46 ((7 ∷ []) ++ bytes_of 8 r.address ++ bytes_of 8 r.line)) warnings warnings' n
      → LineConverted w w' warnings warnings' c st r file (record { table = st.table; count = st.count; warned = n })
  unfolding convert_line kind_number
  line-warned {st = st} h P = rw h.0 (record {
    new = about unrepresentable_line r.address r.line ∷ [];
    is = λ table indices. rw (le-ltb r.line (2 ^ 32) h.1);
    put = about-put unrepresentable_line 7 r.address r.line refl P;
    table_same = refl;
    more = (omega arith, omega arith);
    rest = kept_refl w (c.lines + st.count * line_size) line_size;
  })

-- ---- a row of the sheet

pub row_read : (s : List ℕ) (start a f l k n : ℕ) → a ≡ le_at 8 s start → f ≡ le_at 8 s (start + 8) → l ≡ le_at 8 s (start + row_line_at) → k ≡ le_at 2 s (start + row_column_at)
    → raw_of (record { address = a; file = record { 0 = f }; line = l; column = k; sequence = n }) ≡ raw_line (row_of (chunk s start row_field_size)) n
unfolding row_of
row_read s start a f l k n ea ef el ek = rw (le_at-front 8 s start row_field_size (omega arith), le_at-chunk 8 s start row_field_size 8 (omega arith), le_at-chunk 8 s start row_field_size row_line_at (omega arith), le_at-chunk 2 s start row_field_size row_column_at (omega arith), ea, ef, el, ek)
